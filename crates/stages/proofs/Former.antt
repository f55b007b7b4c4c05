-- What was shown for an enquiry before request 13, with 17 as the last test, is what is shown: "An enquiry outside the limits must get the
-- number it got before." By the law that no operation refuses where no test applies. Assumes nothing.
use mathlib.Core.Path.{◌≡◌, refl, ◌∙◌}
use mathlib.Core.Bool.{Bool, not}
use Prim.Native.Nat.{ℕ}
use lib.Dec.{eqb}
use Rattle.pairs.specs.Rounded.{ends, rounded}
use Rattle.pairs.specs.Figures as figures
use Rattle.pairs.specs.Figures.{Figures, given, refuse}
use Rattle.pairs.specs.Answers.{answers}
use Rattle.chain.specs.declared.enquiry.Enquiry.{Enquiry}
use Rattle.chain.specs.Chain.{factor, radiant_flux}
use Rattle.chain.specs.Tests.{first_that_applies}
use Rattle.chain.specs.Flux.{Shown, refused, outside, fuel_within, height_outside, flame_too_low, accepted, limits, tests, flux_of}
use Rattle.chain.specs.Factor.{factor_tests, factor_of}
use Rattle.chain.proofs.FirstThatApplies.{same_after_tests}
use Rattle.chain.proofs.Limits.{limited}
use Rattle.chain.proofs.Unrefused.{unrefused}

-- "17, some stage's high end is 2^64 trillionths or more": a pair operation of the chain is refused by 64.
abbrev stage_too_large : Enquiry → Bool
stage_too_large E = eqb (radiant_flux answers E).number 64

unfoldable pub former_flux_of : Enquiry → Shown
former_flux_of E =
    refuse (not (fuel_within E)) (refused 11)
    (refuse (outside 100 190_000 E.area) (refused 12)
    (refuse (outside 1 3 E.method) (refused 13)
    (refuse (outside 1_000 200_000 E.distance) (refused 14)
    (refuse (outside 1 3 E.face) (refused 15)
    (refuse (height_outside E.height) (refused 18)
    (refuse (outside 1 1_000 E.transmissivity) (refused 19)
    (refuse (flame_too_low E) (refused 16)
    (refuse (stage_too_large E) (refused 17)
    (accepted E)))))))))

pub nothing_moved : (E : Enquiry) → former_flux_of E ≡ flux_of E
unfolding former_flux_of limits flux_of
nothing_moved E =
    with_17
    ∙ same_after_tests refused (λ s t. s ≡ t) (λ _. refl) (tests E) _ (accepted E) (λ none. rw (unrefused E (limited E none)).flux_given)
  where
    -- The tests of today, and then 17.
    with_17 : former_flux_of E ≡ first_that_applies refused (tests E) (refuse (stage_too_large E) (refused 17) (accepted E))
    with_17 = refl

-- The factor alone was written test by test too.
unfoldable pub former_factor_of : ℕ → ℕ → ℕ → Figures
former_factor_of l e face =
    refuse (outside 0 40_000_000_000_000 l) (figures.refused 21)
    (refuse (outside 40_000_000_000 400_000_000_000_000 e) (figures.refused 22)
    (refuse (outside 1 3 face) (figures.refused 23)
    (given (factor rounded face (ends l l) (ends e e)))))

pub no_factor_moved : (l e face : ℕ) → former_factor_of l e face ≡ factor_of l e face
unfolding former_factor_of factor_of factor_tests
no_factor_moved l e face = refl
