-- Request 10: "A register holds up to 32 burning pools, each under a number from 1 to 255 with its enquiry." It is a list of places.
use Rattle.std.specs.Prelude.{ℕ, Bool, false, ◌||◌, List, [], ◌∷◌, eqb, pos, replicate}
use Rattle.register.specs.declared.places.BurningPool.{BurningPool}
use Rattle.register.specs.declared.places.Register.{Register}

-- A place where no pool burns: it has the number 0.
abbrev pub vacant : BurningPool
vacant =
    record {
      number = 0;
      enquiry =
          record {
            rate = 0;
            absorption = 0;
            heat = 0;
            area = 0;
            method = 0;
            distance = 0;
            face = 0;
            height = pos 0;
            transmissivity = 0;
          };
      low = 0;
      high = 0;
    }

-- "an empty register"
abbrev pub no_pools : Register
no_pools = record { places = replicate 32 vacant }

-- Whether a place has the number; of a number from 1, whether the pool "is burning".
unfoldable pub has : ℕ → List BurningPool → Bool
has n [] = false
has n (p ∷ ps) = eqb p.number n || has n ps
