-- Document 01, "Chain": steps 1 to 8 over any arithmetic, each with its formula in ISO 24678-7; with the heights of request 1, the
-- haze of request 3, the smoky fuels of request 5, whose formulas are those of source document 004, and the tilted face of request 6.
-- A height is an integer: `nat_abs` is its magnitude, `non_neg` says that it is not negative.
use Rattle.std.specs.Prelude.{ℕ, zero, suc, ◌*◌, Bool, true, false, eqb, nat_abs}
use Rattle.std.specs.Int.Signed.{non_neg}
use Rattle.pairs.specs.Arithmetic.{Arithmetic}
use Rattle.pairs.specs.Series.{one, atan, pi, exp_neg, ln_ten}
use Rattle.chain.specs.declared.enquiry.Enquiry.{Enquiry}

-- A flame over a pool: its height L and its emissive power E.
pub record Flame (Carrier : Type 0) : Type 0 where
  pub height : Carrier
  pub power : Carrier

module _ (A : Arithmetic) where
  -- ---- the steps, each from what it takes of the steps before it
  -- 1. "D = root((4a/100)/pi); R = D over 2." (A.2) Here four-areas is 4a/100.
  unfoldable pub diameter : A.Carrier → A.Carrier
  diameter four_areas = A.root (A.quotient four_areas (pi A))

  unfoldable pub radius : A.Carrier → A.Carrier
  radius D = A.over D 2

  -- 2. "X = exp(-(k·D over 100))." (A.4)
  unfoldable pub optical_depth : ℕ → A.Carrier → A.Carrier
  optical_depth k D = A.over (A.times D k) 100

  unfoldable pub unabsorbed : ℕ → A.Carrier → A.Carrier
  unabsorbed k D = exp_neg A (optical_depth k D)

  -- 3. "Q = (m·c·a/1000)·(1-X), in kW; the first factor is taken as one exact pair." (A.3, A.4) And request 5: "Method 3, in place
  -- of steps 3 to 5, has M = (m/1000)·(1-X)." (004, equation 8b) Here full is the first factor of either.
  unfoldable pub burning : A.Carrier → A.Carrier → A.Carrier
  burning full X = A.product full (A.difference (one A) X)

  -- 4. "s = fifth root of Q; L = 0.235·(s·s) - 1.02·D." (A.10)
  unfoldable pub flame_height : A.Carrier → A.Carrier → A.Carrier
  flame_height D Q =
      let s = A.fifth_root Q in
      A.difference (A.product (A.constant 235 1000) (A.product s s)) (A.product (A.constant 102 100) D)

  -- 5. "Method 1: E = 58 times exp(-((0.00823·D)·ln 10))." (A.11)
  unfoldable pub emissive_power_1 : A.Carrier → A.Carrier
  emissive_power_1 D = A.times (exp_neg A (A.product (A.product (A.constant 823 100000) D) (ln_ten A))) 58

  -- "Method 2: f = 0.21 - 0.0034·D; E = (f·Q)/(pi·D·L + (pi·(D·D) over 4))." (A.12, first row of Table A.2)
  unfoldable pub radiant_fraction : A.Carrier → A.Carrier
  radiant_fraction D = A.difference (A.constant 21 100) (A.product (A.constant 34 10000) D)

  unfoldable pub flame_surface : A.Carrier → A.Carrier → A.Carrier
  flame_surface D L = A.sum (A.product (A.product (pi A) D) L) (A.over (A.product (pi A) (A.product D D)) 4)

  unfoldable pub emissive_power_2 : A.Carrier → A.Carrier → A.Carrier → A.Carrier
  emissive_power_2 D Q L = A.quotient (A.product (radiant_fraction D) Q) (flame_surface D L)

  -- Request 5, method 3: "then w = M/(1.2·root(9.81·D))." (004, equation 3)
  unfoldable pub froude_number : A.Carrier → A.Carrier → A.Carrier
  froude_number D M = A.quotient M (A.product (A.constant 12 10) (A.root (A.product (A.constant 981 100) D)))

  -- "L is 42·D times the 0.61 power of w. That power is two roots, then two fifth roots, then 61 equal factors." (004, equation 1)
  -- Here equal-factors b n is b and n factors b more, from left to right.
  unfoldable pub equal_factors : A.Carrier → ℕ → A.Carrier
  equal_factors b zero = b
  equal_factors b (suc n) = A.product (equal_factors b n) b

  unfoldable pub power_61_hundredths : A.Carrier → A.Carrier
  power_61_hundredths w = equal_factors (A.fifth_root (A.fifth_root (A.root (A.root w)))) 60

  unfoldable pub flame_height_3 : A.Carrier → A.Carrier → A.Carrier
  flame_height_3 D w = A.product (A.times D 42) (power_61_hundredths w)

  -- "With X2 = exp(-(0.2·D)), E is 140·X2 + 20·(1-X2)." (004, equation 15)
  unfoldable pub unobscured : A.Carrier → A.Carrier
  unobscured D = exp_neg A (A.product (A.constant 2 10) D)

  unfoldable pub emissive_power_3 : A.Carrier → A.Carrier
  emissive_power_3 D =
      let X2 = unobscured D in
      A.sum (A.times X2 140) (A.times (A.difference (one A) X2) 20)

  -- 6. "l = L/R; e = (d/1000)/R.": a length in radii of the pool.
  unfoldable pub in_radii : A.Carrier → A.Carrier → A.Carrier
  in_radii length D = A.quotient length (radius D)

  -- 7. "Factor F (B.2, B.4) with x = 1+e, g = e+2, r = root(e/g), u = root(l·l+g·g), v = root(l·l+e·e),
  -- A = atan((r·u)/v)." Here the last is tilt.
  unfoldable pub x : A.Carrier → A.Carrier
  x e = A.sum (one A) e

  unfoldable pub g : A.Carrier → A.Carrier
  g e = A.sum e (A.constant 2 1)

  unfoldable pub r : A.Carrier → A.Carrier
  r e = A.root (A.quotient e (g e))

  unfoldable pub u : A.Carrier → A.Carrier → A.Carrier
  u l e = A.root (A.sum (A.product l l) (A.product (g e) (g e)))

  unfoldable pub v : A.Carrier → A.Carrier → A.Carrier
  v l e = A.root (A.sum (A.product l l) (A.product e e))

  unfoldable pub tilt : A.Carrier → A.Carrier → A.Carrier
  tilt l e = atan A (A.quotient (A.product (r e) (u l e)) (v l e))

  -- "vertical ((atan(l/root(e·g))/x + (l/x)·((l·l+x·x+1)/(u·v))·A) - (l/x)·atan(r))/pi" (B.2)
  unfoldable pub height_angle : A.Carrier → A.Carrier → A.Carrier
  height_angle l e = A.quotient (atan A (A.quotient l (A.root (A.product e (g e))))) (x e)

  unfoldable pub vertical_ratio : A.Carrier → A.Carrier → A.Carrier
  vertical_ratio l e =
      A.quotient (A.sum (A.sum (A.product l l) (A.product (x e) (x e))) (one A)) (A.product (u l e) (v l e))

  unfoldable pub vertical : A.Carrier → A.Carrier → A.Carrier
  vertical l e =
      A.quotient
      (A.difference
      (A.sum (height_angle l e) (A.product (A.product (A.quotient l (x e)) (vertical_ratio l e)) (tilt l e)))
      (A.product (A.quotient l (x e)) (atan A (r e))))
      (pi A)

  -- "horizontal (atan(root(g/e)) - ((l·l+e·g)/(u·v))·A)/pi" (B.4)
  unfoldable pub horizontal_ratio : A.Carrier → A.Carrier → A.Carrier
  horizontal_ratio l e =
      A.quotient (A.sum (A.product l l) (A.product e (g e))) (A.product (u l e) (v l e))

  unfoldable pub horizontal : A.Carrier → A.Carrier → A.Carrier
  horizontal l e =
      A.quotient
      (A.difference (atan A (A.root (A.quotient (g e) e))) (A.product (horizontal_ratio l e) (tilt l e)))
      (pi A)

  -- Request 6: "the tilted face, the most exposed orientation": "Face 3 becomes the root of Fv·Fv + Fh·Fh." (003, equation 20) Of a target
  -- above the base Fh is what is seen from above alone, so that a face that leans down can be more exposed.
  unfoldable pub most_exposed : A.Carrier → A.Carrier → A.Carrier
  most_exposed upright level = A.root (A.sum (A.product upright upright) (A.product level level))

  -- "face 1 (vertical), 2 (horizontal, looking up) or 3 (worst)"
  unfoldable pub by_face : ℕ → A.Carrier → A.Carrier → A.Carrier
  by_face face upright level =
      elim (eqb face 1) [
        | true ↦ upright
        | false ↦ elim (eqb face 2) [ true ↦ level | false ↦ most_exposed upright level ]
      ]

  unfoldable pub factor : ℕ → A.Carrier → A.Carrier → A.Carrier
  factor face l e = by_face face (vertical l e) (horizontal l e)

  -- Request 1: "With h the height in metres over R, f(y) step 7's factor of that face with y in l's place, and each
  -- difference raised to 0: from the base up, the vertical factor is f(h) + f(l-h) - f(h-l) and the horizontal one f(l-h)."
  unfoldable pub vertical_above : A.Carrier → A.Carrier → A.Carrier → A.Carrier
  vertical_above l h e =
      A.difference (A.sum (vertical h e) (vertical (A.difference l h) e)) (vertical (A.difference h l) e)

  unfoldable pub horizontal_above : A.Carrier → A.Carrier → A.Carrier → A.Carrier
  horizontal_above l h e = horizontal (A.difference l h) e

  -- "Below the base, each is f(l+|h|) - f(|h|)." Here h is |h|.
  unfoldable pub vertical_below : A.Carrier → A.Carrier → A.Carrier → A.Carrier
  vertical_below l h e = A.difference (vertical (A.sum l h) e) (vertical h e)

  unfoldable pub horizontal_below : A.Carrier → A.Carrier → A.Carrier → A.Carrier
  horizontal_below l h e = A.difference (horizontal (A.sum l h) e) (horizontal h e)

  -- The factor of a face, for a target from the base up or below it.
  unfoldable pub factor_at : Bool → ℕ → A.Carrier → A.Carrier → A.Carrier → A.Carrier
  factor_at from_the_base_up face l h e =
      elim from_the_base_up [
        | true ↦ by_face face (vertical_above l h e) (horizontal_above l h e)
        | false ↦ by_face face (vertical_below l h e) (horizontal_below l h e)
      ]

  -- Request 3: "The flux becomes (E·F) times that number over 1,000, and so does the exact chain at every depth." The number is the
  -- transmissivity of the air, in thousandths.
  unfoldable pub transmitted : ℕ → A.Carrier → A.Carrier
  transmitted transmissivity clear = A.over (A.times clear transmissivity) 1000

  -- ---- the steps of one enquiry, with its own numbers
  -- 1. "4a/100"
  unfoldable pub diameter_of : Enquiry → A.Carrier
  diameter_of E = diameter (A.constant (4 * E.area) 100)

  -- 2. k is the absorption.
  unfoldable pub unabsorbed_of : Enquiry → A.Carrier
  unabsorbed_of E = unabsorbed E.absorption (diameter_of E)

  -- 3. "m·c·a/1000"
  unfoldable pub heat_release_of : Enquiry → A.Carrier
  heat_release_of E = burning (A.constant (E.rate * E.heat * E.area) 1000) (unabsorbed_of E)

  -- Request 5: "m/1000"; "Its burning rate stays that of step 2", whose X it takes. This is M, and then w.
  unfoldable pub burning_rate_of : Enquiry → A.Carrier
  burning_rate_of E = burning (A.constant E.rate 1000) (unabsorbed_of E)

  unfoldable pub froude_number_of : Enquiry → A.Carrier
  froude_number_of E = froude_number (diameter_of E) (burning_rate_of E)

  -- 4 and 5, and request 5: L and E by each method.
  unfoldable pub flame_1_of : Enquiry → Flame A.Carrier
  flame_1_of E =
      record { height = flame_height (diameter_of E) (heat_release_of E); power = emissive_power_1 (diameter_of E) }

  unfoldable pub flame_2_of : Enquiry → Flame A.Carrier
  flame_2_of E =
      let L = flame_height (diameter_of E) (heat_release_of E) in
      record { height = L; power = emissive_power_2 (diameter_of E) (heat_release_of E) L }

  unfoldable pub flame_3_of : Enquiry → Flame A.Carrier
  flame_3_of E =
      record { height = flame_height_3 (diameter_of E) (froude_number_of E); power = emissive_power_3 (diameter_of E) }

  -- By the method of the enquiry: 1, 2 or 3.
  unfoldable pub flame_of : Enquiry → Flame A.Carrier
  flame_of E =
      elim (eqb E.method 1) [
        | true ↦ flame_1_of E
        | false ↦ elim (eqb E.method 2) [ true ↦ flame_2_of E | false ↦ flame_3_of E ]
      ]

  unfoldable pub flame_height_of : Enquiry → A.Carrier
  flame_height_of E = (flame_of E).height

  unfoldable pub emissive_power_of : Enquiry → A.Carrier
  emissive_power_of E = (flame_of E).power

  -- 6. "l = L/R"
  unfoldable pub relative_height_of : Enquiry → A.Carrier
  relative_height_of E = in_radii (flame_height_of E) (diameter_of E)

  -- "e = (d/1000)/R"
  unfoldable pub relative_distance_of : Enquiry → A.Carrier
  relative_distance_of E = in_radii (A.constant E.distance 1000) (diameter_of E)

  -- Request 1: "h the height in metres over R"; its magnitude, |h| below the base.
  unfoldable pub relative_elevation_of : Enquiry → A.Carrier
  relative_elevation_of E = in_radii (A.constant (nat_abs E.height) 1000) (diameter_of E)

  -- 7. F at the height of the target: "from the base up" where the height is not negative.
  unfoldable pub configuration_factor_of : Enquiry → A.Carrier
  configuration_factor_of E =
      factor_at (non_neg E.height) E.face (relative_height_of E) (relative_elevation_of E) (relative_distance_of E)

  -- 8. "q = E·F kW/m²." (A.1 in clear air): q until request 3.
  unfoldable pub clear_flux : Enquiry → A.Carrier
  clear_flux E = A.product (emissive_power_of E) (configuration_factor_of E)

  -- Request 3: q is E·F times the transmissivity of the enquiry over 1,000. (A.1)
  unfoldable pub radiant_flux : Enquiry → A.Carrier
  radiant_flux E = transmitted E.transmissivity (clear_flux E)
