-- `radiant_flux` meets its contract: steps 6 to 8, one operation after the other.
-- Assumes nothing.
use mathlib.Core.Path.{◌≡◌, refl, sym, ap, ap₂, subst, ◌∙◌}
use mathlib.Core.Bool.{Bool}
use Prim.Native.Nat.{ℕ, ◌*◌, ◌≤◌}
use native.Mathlib.Omega.{arith}
use Rattle.std.proofs.Common.{rules}
use lib.IntN.{nat_abs}
use Rattle.pairs.specs.Rounded.{ends}
use Rattle.pairs.specs.Figures.{Figures, given}
use Rattle.pairs.specs.Answers as A
use Rattle.chain.specs.Chain as chain
use Rattle.chain.specs.declared.enquiry.Enquiry.{Enquiry}
use Rattle.chain.specs.Private.{Limited, Spaced}
use Rattle.chain.proofs.Limits.{numbers}
use Rattle.chain.proofs.InLimits.{limited_of}
use Rattle.chain.proofs.Constants.{thousandths}
use Rattle.chain.proofs.Unrefused.{distance_spaced}
use Rattle.chain.proofs.flux.radiant_flux.Goals as goal

same_factor :
    {face face' : ℕ} {a a' : Bool} {l l' h h' e e' : Figures} → face ≡ face' → a ≡ a' → l ≡ l' → h ≡ h' → e ≡ e'
    → chain.factor_at A.answers a face l h e ≡ chain.factor_at A.answers a' face' l' h' e'
same_factor f a l h e = λ i. chain.factor_at A.answers (a i) (f i) (l i) (h i) (e i)

radius_is : {R D D' : Figures} → R ≡ A.over D 2 → D ≡ D' → R ≡ chain.radius A.answers D'
unfolding chain.radius
radius_is r d = r ∙ ap₂ A.over d refl

-- a length of n mm in radii
in_radii :
    (n : ℕ) (D : Figures) {k : ℕ} {q x R : Figures} → k ≡ n → k ≤ 200_000 → q ≡ A.quotient x R → x ≡ given (ends (k * 1_000_000_000) (k * 1_000_000_000)) → R ≡ chain.radius A.answers D
    → q ≡ chain.in_radii A.answers (A.constant n 1000) D
unfolding chain.in_radii
in_radii n D {k} e h q x r = q ∙ ap₂ A.quotient (x ∙ thousandths k (omega arith) ∙ ap (λ (n : ℕ). A.constant n 1000) e) r

module _ (E : Enquiry) (w : Limited E) {k : ℕ} {q x R : Figures} where
  distance_is : k ≡ E.distance → q ≡ A.quotient x R → x ≡ given (ends (k * 1_000_000_000) (k * 1_000_000_000)) → R ≡ chain.radius A.answers (chain.diameter_of A.answers E) → q ≡ chain.relative_distance_of A.answers E
  unfolding chain.relative_distance_of
  distance_is e = in_radii _ _ e (rw e (numbers E w).distance.high)

  elevation_is : k ≡ nat_abs E.height → q ≡ A.quotient x R → x ≡ given (ends (k * 1_000_000_000) (k * 1_000_000_000)) → R ≡ chain.radius A.answers (chain.diameter_of A.answers E) → q ≡ chain.relative_elevation_of A.answers E
  unfolding chain.relative_elevation_of
  elevation_is e = in_radii _ _ e (let h = (numbers E w).height in omega arith)

pub factor_at-factor-requires : goal.factor_at-factor-requires
factor_at-factor-requires c =
    let E = c.args.a.enquiry in
    let w = limited_of c.args.a in
    let distance = distance_is E w refl c.div-distance.ensures c.exact-2.ensures (radius_is c.div-radius.ensures c.requires.diameter_value) in
    subst Spaced (sym distance) (distance_spaced E w)

pub returns : goal.returns
unfolding chain.radiant_flux chain.clear_flux chain.configuration_factor_of chain.relative_height_of chain.in_radii
returns c =
    let E = c.args.a.enquiry in
    let flame = c.requires.flame_of in
    let w = limited_of c.args.a in
    let radius = radius_is c.div-radius.ensures c.requires.diameter_value in
    let l = c.div-l.ensures ∙ ap₂ A.quotient flame.height radius in
    let elevation = elevation_is E w (search rules) c.div-h.ensures c.exact.ensures radius in
    let distance = distance_is E w refl c.div-distance.ensures c.exact-2.ensures radius in
    let factor = c.factor_at-factor.ensures ∙ same_factor c.args.a.face_is (search rules) l elevation distance in
    c.transmitted.ensures ∙ ap (chain.transmitted A.answers E.transmissivity) (c.mul.ensures ∙ ap₂ A.product flame.power factor)
