-- Request 4: one enquiry in floats, and the group of a target.
use Rattle.std.specs.Prelude.{zero, suc}
use Rattle.chain.specs.declared.enquiry.Enquiry.{Enquiry}
use Rattle.chain.specs.Flux.{Shown, flux_of}
use Rattle.drawing.specs.declared.figures.Ends.{Ends}
use Rattle.drawing.specs.declared.figures.Ends.TheVariants.{Answered, Refused}
use Rattle.drawing.specs.declared.figures.Group.{Group}
use Rattle.drawing.specs.Floats.{float, middle}

-- "An answered enquiry shall be given as two floats in W/m², each exactly the whole number printed, or as the refusal number."
-- The case of the enum for each state: 0 is answered, any other state is the number of the refusal.
abbrev pub ends : Shown → Ends
ends a = elim a.state [ zero ↦ Answered (float a.low) (float a.high) | suc n ↦ Refused (suc n) ]

unfoldable pub ends_of : Enquiry → Ends
ends_of E = ends (flux_of E)

-- "a refused target's group is three zeros"
abbrev pub three_zeros : Group
three_zeros = record { low = float 0; middle = float 0; high = float 0 }

-- "Middles .. are held together with their float ends, as one group".
unfoldable pub group_of : Ends → Group
group_of (Answered low high) = record { low = low; middle = middle low high; high = high }
group_of (Refused number) = three_zeros
