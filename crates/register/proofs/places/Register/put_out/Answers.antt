-- `put_out` meets its contract: each refusal, and the first place of the number made vacant. Assumes nothing.
use Rattle.std.proofs.Common.{◌≡◌, refl, sym, ◌∙◌, ap, length, arith}
use Rattle.register.specs.Places.{vacant}
use Rattle.register.specs.Calls.{with_first}
use Rattle.register.proofs.Outcomes.{number_refused, number_taken, burns, is_out, handed_on, refused_as, set_there, out_outside, out_not_burning, out_accepted}
use Rattle.register.proofs.places.Register.put_out.Goals as goal

pub returns-in_err-number : goal.returns-in_err-number
returns-in_err-number c =
    let o = number_refused c.args.number _ c.pool_number.ensures _ c.in_err-number.was in
    handed_on _ _ c.from_residual.ensures o.1 ∙ sym (out_outside _ _ o.0)

pub returns-in_err-at : goal.returns-in_err-at
returns-in_err-at c =
    let long : length c.args.self.now.places ≡ 32 = omega arith in
    let o = is_out _ long c.args.number _ c.pool_number.ensures _ c.in_ok-number.was _ c.place_of.ensures (sym c.in_err-at.ensures.variant) in
    handed_on _ _ c.from_residual-in_err-at.ensures (refused_as _ c.in_err-at.ensures.value) ∙ sym (out_not_burning _ _ o.0 o.1)

pub returns : goal.returns
returns c =
    let long : length c.args.self.now.places ≡ 32 = omega arith in
    let o = burns _ long c.args.number _ c.pool_number.ensures _ c.in_ok-number.was _ c.place_of.ensures (sym c.in_ok-at.ensures.variant) in
    let number_is = number_taken c.args.number _ c.pool_number.ensures _ c.in_ok-number.was in
    set_there _ long c.in_ok-number.number _ c.place_of.ensures _ c.in_ok-at.ensures.ok_part _ _ refl
    ∙ ap (λ n. with_first n vacant c.args.self.now) number_is.1 ∙ sym (out_accepted _ _ o.0 o.1)
