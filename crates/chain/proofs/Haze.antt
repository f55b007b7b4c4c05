-- What haze makes of E·F: at 1,000 q is E·F itself; below that no high end grows, and q is wider by a trillionth at most. What is
-- printed comes from q. By the roundings of one division. Assumes nothing.
use mathlib.Core.Path.{◌≡◌, refl, subst, ap, ◌∙◌}
use Prim.Native.Nat.{ℕ, ◌+◌, ◌-◌, ◌*◌, ◌≤◌}
use native.Mathlib.Nat.{add-mul, mul-le-mul_left, mul-le-mul_right}
use native.Mathlib.Omega.{arith}
use Rattle.pairs.specs.declared.answer.Pair.{Pair}
use Rattle.pairs.specs.Rounded as R
use Rattle.pairs.specs.Rounded.{ends, up, down, rounded}
use Rattle.chain.specs.declared.enquiry.Enquiry.{Enquiry}
use Rattle.chain.specs.declared.enquiry.Printed.{Printed}
use Rattle.chain.specs.Chain.{transmitted, clear_flux, radiant_flux}
use Rattle.chain.specs.Flux.{low_of, high_of, note_of}
use Rattle.chain.specs.Private.{Prints}

-- ---- one pair
all_transmitted : (clear : Pair) → transmitted rounded 1000 clear ≡ clear
unfolding transmitted R.over R.times up down
all_transmitted clear =
    let low : down (clear.low * 1000) 1000 ≡ clear.low = omega arith in
    let high : up (clear.high * 1000) 1000 ≡ clear.high = omega arith in
    λ i. ends (low i) (high i)

module _ (clear : Pair) {t : ℕ} (most : t ≤ 1000) where
  pub transmitted_ordered : clear.low ≤ clear.high → (transmitted rounded t clear).low ≤ (transmitted rounded t clear).high
  unfolding transmitted R.over R.times up down
  transmitted_ordered h = omega (arith, mul-le-mul_right t h)

  pub transmitted_high : (transmitted rounded t clear).high ≤ clear.high
  unfolding transmitted R.over R.times up
  transmitted_high = omega (arith, mul-le-mul_left clear.high most)

  transmitted_near :
      (w : ℕ) → clear.high ≤ clear.low + w → (transmitted rounded t clear).high ≤ (transmitted rounded t clear).low + (w + 1)
  unfolding transmitted R.over R.times up down
  transmitted_near w h = omega (arith, mul-le-mul_right t h, add-mul clear.low w t, mul-le-mul_left w most)

-- ---- one enquiry
module _ (E : Enquiry) where
  -- At 1,000 q is E·F itself.
  pub flux_clear : E.transmissivity ≡ 1000 → radiant_flux rounded E ≡ clear_flux rounded E
  unfolding radiant_flux
  flux_clear at_1000 = ap (λ (t : ℕ). transmitted rounded t (clear_flux rounded E)) at_1000 ∙ all_transmitted (clear_flux rounded E)

  -- q is at most a trillionth wider than E·F.
  pub hazy_near :
      E.transmissivity ≤ 1000 → (w : ℕ) → (clear_flux rounded E).high ≤ (clear_flux rounded E).low + w
      → (radiant_flux rounded E).high ≤ (radiant_flux rounded E).low + (w + 1)
  unfolding radiant_flux
  hazy_near most = transmitted_near (clear_flux rounded E) most

  pub hazy_width :
      E.transmissivity ≤ 1000
      → (radiant_flux rounded E).high - (radiant_flux rounded E).low ≤ (clear_flux rounded E).high - (clear_flux rounded E).low + 1
  hazy_width most =
      let clear = clear_flux rounded E in
      let near = hazy_near most (clear.high - clear.low) (omega arith) in
      omega (arith, near)

  -- ---- as printed
  abbrev pub printed_of : Printed
  printed_of = record { low = low_of E; high = high_of E; note = note_of E }

  -- Low, high and note come from q.
  pub printed_from : (q : Pair) → radiant_flux rounded E ≡ q → Prints q E.method printed_of
  unfolding low_of high_of note_of
  printed_from q e = subst (λ q. Prints q E.method printed_of) e (record { low = refl; high = refl; note = refl })

  -- Request 3: "At 1,000 the old figures must come out."
  pub printed_clear : E.transmissivity ≡ 1000 → Prints (clear_flux rounded E) E.method printed_of
  printed_clear at_1000 = printed_from (clear_flux rounded E) (flux_clear at_1000)
