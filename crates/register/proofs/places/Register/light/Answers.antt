-- `light` meets its contract: each refusal, and the pool in the first vacant place, from what the two searches find. Assumes nothing.
use Rattle.std.proofs.Common.{◌≡◌, refl, sym, ◌∙◌, ap, length, arith}
use Rattle.chain.specs.Flux.{Shown, shown}
use Rattle.chain.proofs.Limits.{number_above_0}
use Rattle.register.proofs.Outcomes.{number_refused, number_taken, burns, is_out, handed_on, refused_as, space_by, full_by, set_there, lit_outside, lit_burning, lit_full, lit_refused, lit_accepted, lit_is}
use Rattle.register.proofs.places.Register.light.Goals as goal

pub returns-in_err-number : goal.returns-in_err-number
returns-in_err-number c =
    let o = number_refused c.args.number _ c.pool_number.ensures _ c.in_err-number.was in
    handed_on _ _ c.from_residual.ensures o.1 ∙ sym (lit_outside _ _ _ o.0)

pub returns-then-is_some : goal.returns-then-is_some
returns-then-is_some c =
    let long : length c.args.self.now.places ≡ 32 = omega arith in
    let o = burns _ long c.args.number _ c.pool_number.ensures _ c.in_ok-number.was _ c.place_of.ensures (sym c.is_some.ensures ∙ c.if-is_some.true) in
    sym (lit_burning _ _ _ o.0 o.1)

pub returns-in_err-at : goal.returns-in_err-at
returns-in_err-at c =
    let long : length c.args.self.now.places ≡ 32 = omega arith in
    let o = is_out _ long c.args.number _ c.pool_number.ensures _ c.in_ok-number.was _ c.place_of.ensures (sym c.is_some.ensures ∙ c.if-is_some.false) in
    let full = full_by _ long 0 _ c.place_of-2.ensures refl (sym c.in_err-at.ensures.variant) in
    handed_on _ _ c.from_residual-in_err-at.ensures (refused_as _ c.in_err-at.ensures.value) ∙ sym (lit_full _ _ _ o.0 o.1 full)

pub returns-in_err-p : goal.returns-in_err-p
returns-in_err-p c =
    let long : length c.args.self.now.places ≡ 32 = omega arith in
    let o = is_out _ long c.args.number _ c.pool_number.ensures _ c.in_ok-number.was _ c.place_of.ensures (sym c.is_some.ensures ∙ c.if-is_some.false) in
    let space = space_by _ long 0 _ c.place_of-2.ensures refl (sym c.in_ok-at.ensures.variant) in
    let flux_is = sym (ap shown c.in_err-p.was) ∙ c.flux.ensures in
    handed_on _ _ c.from_residual-in_err-p.ensures refl
    ∙ sym (lit_refused _ _ _ o.0 o.1 space _ (number_above_0 _) (ap (λ (a : Shown). a.state) (sym flux_is)))

pub returns : goal.returns
returns c =
    let long : length c.args.self.now.places ≡ 32 = omega arith in
    let o = is_out _ long c.args.number _ c.pool_number.ensures _ c.in_ok-number.was _ c.place_of.ensures (sym c.is_some.ensures ∙ c.if-is_some.false) in
    let space = space_by _ long 0 _ c.place_of-2.ensures refl (sym c.in_ok-at.ensures.variant) in
    let flux_is = sym (ap shown c.in_ok-p.was) ∙ c.flux.ensures in
    let number_is = number_taken c.args.number _ c.pool_number.ensures _ c.in_ok-number.was in
    set_there _ long 0 _ c.place_of-2.ensures _ c.in_ok-at.ensures.ok_part _ _ (lit_is _ _ number_is.1 _ flux_is)
    ∙ sym (lit_accepted _ _ _ o.0 o.1 space (ap (λ (a : Shown). a.state) (sym flux_is)))
