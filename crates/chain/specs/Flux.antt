-- Document 01, "One flux" under "Turned back": what is shown for an enquiry, on all numbers.
use Rattle.std.specs.Prelude.{ℕ, ◌*◌, Bool, true, false, ◌&&◌, not, List, [], ◌∷◌, ◌++◌, leb, ltb, eqb, ℤ, nat_abs, Result, Ok, Err}
use Rattle.std.specs.Int.Signed.{non_neg}
use Rattle.pairs.specs.Rounded.{U, down, up, rounded}
use Rattle.chain.specs.declared.enquiry.Enquiry.{Enquiry}
use Rattle.chain.specs.declared.enquiry.Turned.{Turned}
use Rattle.chain.specs.declared.enquiry.Turned.TheVariants as turned
use Rattle.chain.specs.declared.enquiry.Printed.{Printed}
use Rattle.chain.specs.Chain.{diameter_of, flame_height_of, radiant_flux}
use Rattle.chain.specs.Tests.{Test, test, first_that_applies}

-- State, low, high and note as this paper shows them.
pub record Shown : Type 0 where
  pub state : ℕ
  pub low : ℕ
  pub high : ℕ
  pub note : ℕ

-- "Returns zeros for low, high and note."
abbrev pub refused : ℕ → Shown
refused n = record { state = n; low = 0; high = 0; note = 0 }

abbrev pub number_of : Turned → ℕ
number_of turned.Fuel = 11
number_of turned.Area = 12
number_of turned.Method = 13
number_of turned.Distance = 14
number_of turned.Face = 15
number_of turned.Height = 18
number_of turned.Transmissivity = 19
number_of turned.LowFlame = 16

-- This paper's number and values of what the flux answers.
abbrev pub shown : Result Printed Turned → Shown
shown (Ok p) = record { state = 0; low = p.low; high = p.high; note = p.note }
shown (Err why) = refused (number_of why)

-- "limits included"
abbrev pub outside : ℕ → ℕ → ℕ → Bool
outside least most n = not (leb least n && leb n most)

-- "burning rate m of a large pool, 10 to 150 g/(m²·s); absorption k, 10 to 500 hundredths per metre; heat of combustion c,
-- 100 to 500 tenths of MJ/kg"
unfoldable pub fuel_within : Enquiry → Bool
fuel_within E =
    not (outside 10 150 E.rate) && not (outside 10 500 E.absorption) && not (outside 100 500 E.heat)

-- Request 1: "from -5,000 to 20,000 mm".
unfoldable pub height_outside : ℤ → Bool
height_outside height =
    elim (non_neg height) [ true ↦ outside 0 20_000 (nat_abs height) | false ↦ outside 0 5_000 (nat_abs height) ]

-- "16, flame too low, exactly when 4·L.low is under D.high"; request 5: "The flame test under 16 applies unchanged."
unfoldable pub flame_too_low : Enquiry → Bool
flame_too_low E = ltb (4 * (flame_height_of rounded E).low) (diameter_of rounded E).high

-- "Low: 1000·q.low as W/m², down; high: 1000·q.high, up. Note 1 for method 1 with low at most 5,000, else 0."; so for method 3,
-- request 5: "the note is 0".
unfoldable pub low_of : Enquiry → ℕ
low_of E = down (1000 * (radiant_flux rounded E).low) U

unfoldable pub high_of : Enquiry → ℕ
high_of E = up (1000 * (radiant_flux rounded E).high) U

unfoldable pub note_of : Enquiry → ℕ
note_of E = elim (eqb E.method 1 && leb (low_of E) 5000) [ true ↦ 1 | false ↦ 0 ]

-- State 0, with what is printed.
abbrev pub accepted : Enquiry → Shown
accepted E = record { state = 0; low = low_of E; high = high_of E; note = note_of E }

-- "11, a fuel number outside its limits; 12, area; 13, method; 14, rim distance; 15, face", with "area a, 100 to 190,000 dm²; method 1
-- or 2; rim distance d, 1,000 to 200,000 mm; face 1, 2 or 3"; request 5: "Number 13 now means a method outside 1 to 3."; request 1: "18,
-- height outside its limits, after 15 and before 16"; request 3: "19, transmissivity outside its limits, after 18 and before 16"; "in
-- thousandths, .. 1 to 1,000".
unfoldable pub limits : Enquiry → List Test
limits E =
    test 11 (not (fuel_within E))
    ∷ test 12 (outside 100 190_000 E.area)
    ∷ test 13 (outside 1 3 E.method)
    ∷ test 14 (outside 1_000 200_000 E.distance)
    ∷ test 15 (outside 1 3 E.face)
    ∷ test 18 (height_outside E.height)
    ∷ test 19 (outside 1 1_000 E.transmissivity)
    ∷ []

-- "16, flame too low", after them all. Request 13 takes 17 out.
abbrev pub flame_test : Enquiry → List Test
flame_test E = test 16 (flame_too_low E) ∷ []

abbrev pub tests : Enquiry → List Test
tests E = limits E ++ flame_test E

-- "Returns zeros for low, high and note. An enquiry is accepted exactly when no number of this group applies to it."
unfoldable pub flux_of : Enquiry → Shown
flux_of E = first_that_applies refused (tests E) (accepted E)
