-- `flame` meets its contract: the method picks, and the steps follow each other.
-- Assumes nothing.
use mathlib.Core.Path.{◌≡◌, sym, ap, ap₂, ◌∙◌}
use Prim.Native.Nat.{◌*◌}
use Rattle.pairs.specs.Figures.{Figures}
use Rattle.pairs.specs.Answers as A
use Rattle.chain.specs.declared.enquiry.Enquiry.{Enquiry}
use Rattle.chain.specs.declared.pool.PoolFlame.{PoolFlame}
use Rattle.chain.specs.Chain as chain
use Rattle.chain.specs.Private.{method_number, FlameOf}
use Rattle.chain.proofs.pool.flame.Goals as goal

-- the flame that the method picks
module _ (E : Enquiry) where
  picked_1 : E.method ≡ 1 → chain.flame_of A.answers E ≡ chain.flame_1_of A.answers E
  unfolding chain.flame_of
  picked_1 e = rw e

  picked_2 : E.method ≡ 2 → chain.flame_of A.answers E ≡ chain.flame_2_of A.answers E
  unfolding chain.flame_of
  picked_2 e = rw e

  picked_3 : E.method ≡ 3 → chain.flame_of A.answers E ≡ chain.flame_3_of A.answers E
  unfolding chain.flame_of
  picked_3 e = rw e

-- Q is that of the enquiry
heat_is : (E : Enquiry) {D X Q : Figures} → D ≡ chain.diameter_of A.answers E → X ≡ chain.unabsorbed A.answers E.absorption D → Q ≡ chain.burning A.answers (A.constant (E.rate * E.heat * E.area) 1000) X → Q ≡ chain.heat_release_of A.answers E
unfolding chain.heat_release_of chain.unabsorbed_of
heat_is E d x q = q ∙ ap (chain.burning A.answers (A.constant (E.rate * E.heat * E.area) 1000)) (x ∙ ap (chain.unabsorbed A.answers E.absorption) d)

met :
    {E : Enquiry} {r : PoolFlame} {f : chain.Flame Figures} → chain.flame_of A.answers E ≡ f
    → r.height ≡ f.height → r.power ≡ f.power → FlameOf E r
unfolding chain.flame_height_of chain.emissive_power_of
met e l p = record { height = rw (e, chain.flame_height_of) l; power = rw (e, chain.emissive_power_of) p }

pub returns-in-ByDiameter : goal.returns-in-ByDiameter
unfolding chain.flame_1_of
returns-in-ByDiameter c =
    let E = c.args.a.enquiry in
    let diameter = c.requires in
    let heat = heat_is E diameter c.unabsorbed-x.ensures c.heat_release.ensures in
    met (picked_1 E (sym c.args.a.method_is ∙ ap method_number c.in-ByDiameter.is)) (c.flame_height.ensures ∙ ap₂ (chain.flame_height A.answers) diameter heat)
    (c.emissive_power_1.ensures ∙ ap (chain.emissive_power_1 A.answers) diameter)

pub returns-in-ByHeat : goal.returns-in-ByHeat
unfolding chain.flame_2_of
returns-in-ByHeat c =
    let E = c.args.a.enquiry in
    let diameter = c.requires in
    let heat = heat_is E diameter c.unabsorbed-x.ensures c.heat_release-heat.ensures in
    let height = c.flame_height-height.ensures ∙ ap₂ (chain.flame_height A.answers) diameter heat in
    met (picked_2 E (sym c.args.a.method_is ∙ ap method_number c.in-ByHeat.is)) height
    (c.emissive_power_2.ensures ∙ (λ i. chain.emissive_power_2 A.answers (diameter i) (heat i) (height i)))

pub returns-in-Smoky : goal.returns-in-Smoky
unfolding chain.flame_3_of chain.froude_number_of chain.burning_rate_of chain.unabsorbed_of
returns-in-Smoky c =
    let E = c.args.a.enquiry in
    let diameter = c.requires in
    let unabsorbed = c.unabsorbed-x.ensures ∙ ap (chain.unabsorbed A.answers E.absorption) diameter in
    let burning = c.burning.ensures ∙ ap (chain.burning A.answers (A.constant E.rate 1000)) unabsorbed in
    let froude = c.froude_number.ensures ∙ ap₂ (chain.froude_number A.answers) diameter burning in
    met (picked_3 E (sym c.args.a.method_is ∙ ap method_number c.in-Smoky.is)) (c.flame_height_3.ensures ∙ ap₂ (chain.flame_height_3 A.answers) diameter froude)
    (c.emissive_power_3.ensures ∙ ap (chain.emissive_power_3 A.answers) diameter)
