-- Bounds of the factor of a face from those of the two walls. Assumes nothing.
use mathlib.Core.Path.{sym, subst}
use mathlib.Core.Bool.{Bool, true, false, ◌&&◌}
use Prim.Native.Nat.{ℕ}
use lib.Dec.{eqb}
use lib.Ieee.Fits.{and_l, and_r}
use Rattle.pairs.specs.Figures.{Figures}
use Rattle.pairs.specs.Answers.{answers}
use Rattle.pairs.proofs.Kept.{choice_kept}
use Rattle.pairs.proofs.Agreement.{Agrees, itself, agreement}
use Rattle.chain.specs.Chain.{most_exposed, by_face}
use Rattle.chain.proofs.Bounds as B
use Rattle.chain.proofs.Bounds.{Bound, bounds}
use Rattle.chain.proofs.Inside.{Inside, most_exposed_inside}
use Rattle.chain.proofs.Within.{Held, Within, within}
use Rattle.chain.proofs.Steps.{most_exposed_kept}

-- An answer inside a bound agrees with its own pair.
as_rounded : {f : Figures} {b : Bound} → Held f b → Agrees f f.pair
as_rounded {f} h = itself f (λ _. record { ends = h.inside.ordered })

exposed_within : {f g : Figures} {b c : Bound} → Within f b → Within g c → Within (most_exposed answers f g) (B.exposed b c)
unfolding B.exposed
exposed_within {f} {g} {b} {c} h k =
    record {
      where_safe = λ s.
          let root : Bool = (most_exposed bounds b c).safe in
          let walls = and_r root (b.safe && c.safe) s in
          let F = h.where_safe (and_l b.safe c.safe walls) in
          let G = k.where_safe (and_r b.safe c.safe walls) in
          let H = (most_exposed_kept within h k).where_safe (and_l root (b.safe && c.safe) s) in
          let same = (most_exposed_kept agreement (as_rounded F) (as_rounded G)).same H.given in
          record { given = H.given; inside = subst (λ p. Inside p (B.exposed b c)) (sym same) (most_exposed_inside F.inside G.inside) };
    }

unfoldable pub face_bound : ℕ → Bound → Bound → Bound
face_bound face b c = elim (eqb face 1) [ true ↦ b | false ↦ elim (eqb face 2) [ true ↦ c | false ↦ B.exposed b c ] ]

pub by_face_within :
    (face : ℕ) {f g : Figures} {b c : Bound} → Within f b → Within g c → Within (by_face answers face f g) (face_bound face b c)
unfolding by_face face_bound
by_face_within face h k = choice_kept Within (eqb face 1) h (choice_kept Within (eqb face 2) k (exposed_within h k))
