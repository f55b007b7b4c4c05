-- A relation between two arithmetics that each operation keeps is kept by every step of the chain, from the steps before it,
-- and so by the chain of one enquiry. By a walk over the definitions. Assumes nothing.
use mathlib.Core.Bool.{Bool}
use Prim.Native.Nat.{ℕ, zero, suc, ◌*◌}
use lib.Dec.{eqb}
use lib.IntN.{nat_abs}
use lib.Signed.{non_neg}
use Rattle.pairs.specs.Arithmetic.{Arithmetic}
use Rattle.pairs.proofs.Kept.{choice_kept, Kept, one_kept, atan_kept, pi_kept, exp_neg_kept, ln_ten_kept}
use Rattle.chain.specs.declared.enquiry.Enquiry.{Enquiry}
use Rattle.chain.specs.Chain.{Flame, diameter, radius, optical_depth, unabsorbed, burning, flame_height, emissive_power_1, radiant_fraction, flame_surface, emissive_power_2, froude_number, equal_factors, power_61_hundredths, flame_height_3, unobscured, emissive_power_3, in_radii, diameter_of, unabsorbed_of, heat_release_of, burning_rate_of, froude_number_of, flame_1_of, flame_2_of, flame_3_of, flame_of, flame_height_of, emissive_power_of, relative_height_of, relative_distance_of, relative_elevation_of, x, g, r, u, v, tilt, height_angle, vertical_ratio, vertical, horizontal_ratio, horizontal, most_exposed, by_face, factor, vertical_above, horizontal_above, vertical_below, horizontal_below, factor_at, transmitted, configuration_factor_of, clear_flux, radiant_flux}

-- By equal factors, wherever one factor more keeps it.
pub equal_factors_kept :
    (A B : Arithmetic) (R : A.Carrier → B.Carrier → Type 0) {a : A.Carrier} {b : B.Carrier}
    → ((p : A.Carrier) (q : B.Carrier) → R p q → R (A.product p a) (B.product q b))
    → R a b → (n : ℕ) → R (equal_factors A a n) (equal_factors B b n)
unfolding equal_factors
equal_factors_kept A B R more h zero = h
equal_factors_kept A B R more h (suc n) = more _ _ (equal_factors_kept A B R more h n)

-- Both of the height and of the emissive power of two flames.
pub record Both {X Y : Type 0} (R : X → Y → Type 0) (f : Flame X) (g : Flame Y) : Type 0 where
  pub height : R f.height g.height
  pub power : R f.power g.power

module _ {A B : Arithmetic} {R : A.Carrier → B.Carrier → Type 0} (K : Kept A B R) where
  -- ---- steps 1 to 6
  pub diameter_kept : {a : A.Carrier} {b : B.Carrier} → R a b → R (diameter A a) (diameter B b)
  unfolding diameter
  diameter_kept h = K.root (K.quotient h (pi_kept K))

  pub unabsorbed_kept : (k : ℕ) {D : A.Carrier} {D' : B.Carrier} → R D D' → R (unabsorbed A k D) (unabsorbed B k D')
  unfolding unabsorbed optical_depth
  unabsorbed_kept k d = exp_neg_kept K (K.over (K.times d k) 100)

  pub burning_kept : {c X : A.Carrier} {c' X' : B.Carrier} → R c c' → R X X' → R (burning A c X) (burning B c' X')
  unfolding burning
  burning_kept h k = K.product h (K.difference (one_kept K) k)

  pub flame_height_kept : {D Q : A.Carrier} {D' Q' : B.Carrier} → R D D' → R Q Q' → R (flame_height A D Q) (flame_height B D' Q')
  unfolding flame_height
  flame_height_kept d q =
      K.difference (K.product (K.constant 235 1000) (K.product (K.fifth_root q) (K.fifth_root q))) (K.product (K.constant 102 100) d)

  pub emissive_power_1_kept : {D : A.Carrier} {D' : B.Carrier} → R D D' → R (emissive_power_1 A D) (emissive_power_1 B D')
  unfolding emissive_power_1
  emissive_power_1_kept d = K.times (exp_neg_kept K (K.product (K.product (K.constant 823 100000) d) (ln_ten_kept K))) 58

  pub emissive_power_2_kept :
      {D Q L : A.Carrier} {D' Q' L' : B.Carrier} → R D D' → R Q Q' → R L L' → R (emissive_power_2 A D Q L) (emissive_power_2 B D' Q' L')
  unfolding emissive_power_2 radiant_fraction flame_surface
  emissive_power_2_kept d q l =
      K.quotient (K.product (K.difference (K.constant 21 100) (K.product (K.constant 34 10000) d)) q)
      (K.sum (K.product (K.product (pi_kept K) d) l) (K.over (K.product (pi_kept K) (K.product d d)) 4))

  pub froude_number_kept : {D M : A.Carrier} {D' M' : B.Carrier} → R D D' → R M M' → R (froude_number A D M) (froude_number B D' M')
  unfolding froude_number
  froude_number_kept d m = K.quotient m (K.product (K.constant 12 10) (K.root (K.product (K.constant 981 100) d)))

  pub flame_height_3_kept : {D w : A.Carrier} {D' w' : B.Carrier} → R D D' → R w w' → R (flame_height_3 A D w) (flame_height_3 B D' w')
  unfolding flame_height_3 power_61_hundredths
  flame_height_3_kept d w =
      let b = K.fifth_root (K.fifth_root (K.root (K.root w))) in
      K.product (K.times d 42) (equal_factors_kept A B R (λ p q h. K.product h b) b 60)

  pub emissive_power_3_kept : {D : A.Carrier} {D' : B.Carrier} → R D D' → R (emissive_power_3 A D) (emissive_power_3 B D')
  unfolding emissive_power_3 unobscured
  emissive_power_3_kept d =
      let x = exp_neg_kept K (K.product (K.constant 2 10) d) in
      K.sum (K.times x 140) (K.times (K.difference (one_kept K) x) 20)

  pub in_radii_kept : {t D : A.Carrier} {t' D' : B.Carrier} → R t t' → R D D' → R (in_radii A t D) (in_radii B t' D')
  unfolding in_radii radius
  in_radii_kept t d = K.quotient t (K.over d 2)

  -- ---- step 7
  pub x_kept : {e : A.Carrier} {c : B.Carrier} → R e c → R (x A e) (x B c)
  unfolding x
  x_kept h = K.sum (one_kept K) h

  pub g_kept : {e : A.Carrier} {c : B.Carrier} → R e c → R (g A e) (g B c)
  unfolding g
  g_kept h = K.sum h (K.constant 2 1)

  pub r_kept : {e : A.Carrier} {c : B.Carrier} → R e c → R (r A e) (r B c)
  unfolding r
  r_kept h = K.root (K.quotient h (g_kept h))

  pub u_kept : {l e : A.Carrier} {b c : B.Carrier} → R l b → R e c → R (u A l e) (u B b c)
  unfolding u
  u_kept h k = K.root (K.sum (K.product h h) (K.product (g_kept k) (g_kept k)))

  pub v_kept : {l e : A.Carrier} {b c : B.Carrier} → R l b → R e c → R (v A l e) (v B b c)
  unfolding v
  v_kept h k = K.root (K.sum (K.product h h) (K.product k k))

  tilt_kept : {l e : A.Carrier} {b c : B.Carrier} → R l b → R e c → R (tilt A l e) (tilt B b c)
  unfolding tilt
  tilt_kept h k = atan_kept K (K.quotient (K.product (r_kept k) (u_kept h k)) (v_kept h k))

  height_angle_kept : {l e : A.Carrier} {b c : B.Carrier} → R l b → R e c → R (height_angle A l e) (height_angle B b c)
  unfolding height_angle
  height_angle_kept h k = K.quotient (atan_kept K (K.quotient h (K.root (K.product k (g_kept k))))) (x_kept k)

  pub vertical_ratio_kept : {l e : A.Carrier} {b c : B.Carrier} → R l b → R e c → R (vertical_ratio A l e) (vertical_ratio B b c)
  unfolding vertical_ratio
  vertical_ratio_kept h k =
      K.quotient (K.sum (K.sum (K.product h h) (K.product (x_kept k) (x_kept k))) (one_kept K)) (K.product (u_kept h k) (v_kept h k))

  pub vertical_kept : {l e : A.Carrier} {b c : B.Carrier} → R l b → R e c → R (vertical A l e) (vertical B b c)
  unfolding vertical
  vertical_kept h k =
      K.quotient
      (K.difference
      (K.sum (height_angle_kept h k) (K.product (K.product (K.quotient h (x_kept k)) (vertical_ratio_kept h k)) (tilt_kept h k)))
      (K.product (K.quotient h (x_kept k)) (atan_kept K (r_kept k))))
      (pi_kept K)

  pub horizontal_ratio_kept : {l e : A.Carrier} {b c : B.Carrier} → R l b → R e c → R (horizontal_ratio A l e) (horizontal_ratio B b c)
  unfolding horizontal_ratio
  horizontal_ratio_kept h k = K.quotient (K.sum (K.product h h) (K.product k (g_kept k))) (K.product (u_kept h k) (v_kept h k))

  pub horizontal_kept : {l e : A.Carrier} {b c : B.Carrier} → R l b → R e c → R (horizontal A l e) (horizontal B b c)
  unfolding horizontal
  horizontal_kept h k =
      K.quotient
      (K.difference (atan_kept K (K.root (K.quotient (g_kept k) k))) (K.product (horizontal_ratio_kept h k) (tilt_kept h k)))
      (pi_kept K)

  pub most_exposed_kept : {p q : A.Carrier} {b c : B.Carrier} → R p b → R q c → R (most_exposed A p q) (most_exposed B b c)
  unfolding most_exposed
  most_exposed_kept h k = K.root (K.sum (K.product h h) (K.product k k))

  pub by_face_kept : (face : ℕ) {p q : A.Carrier} {b c : B.Carrier} → R p b → R q c → R (by_face A face p q) (by_face B face b c)
  unfolding by_face
  by_face_kept face h k = choice_kept R (eqb face 1) h (choice_kept R (eqb face 2) k (most_exposed_kept h k))

  pub factor_kept : (face : ℕ) {l e : A.Carrier} {b c : B.Carrier} → R l b → R e c → R (factor A face l e) (factor B face b c)
  unfolding factor
  factor_kept face h k = by_face_kept face (vertical_kept h k) (horizontal_kept h k)

  pub factor_at_kept :
      (up : Bool) (face : ℕ) {l h e : A.Carrier} {b a c : B.Carrier} → R l b → R h a → R e c
      → R (factor_at A up face l h e) (factor_at B up face b a c)
  unfolding factor_at vertical_above horizontal_above vertical_below horizontal_below
  factor_at_kept up face p q k =
      choice_kept R up
      (by_face_kept face
      (K.difference (K.sum (vertical_kept q k) (vertical_kept (K.difference p q) k)) (vertical_kept (K.difference q p) k))
      (horizontal_kept (K.difference p q) k))
      (by_face_kept face (K.difference (vertical_kept (K.sum p q) k) (vertical_kept q k))
      (K.difference (horizontal_kept (K.sum p q) k) (horizontal_kept q k)))

  -- ---- step 8
  pub transmitted_kept : (t : ℕ) {q : A.Carrier} {c : B.Carrier} → R q c → R (transmitted A t q) (transmitted B t c)
  unfolding transmitted
  transmitted_kept t h = K.over (K.times h t) 1000

  -- ---- the chain of one enquiry
  module _ (E : Enquiry) where
    pub diameter_of_kept : R (diameter_of A E) (diameter_of B E)
    unfolding diameter_of
    diameter_of_kept = diameter_kept (K.constant (4 * E.area) 100)

    pub unabsorbed_of_kept : R (unabsorbed_of A E) (unabsorbed_of B E)
    unfolding unabsorbed_of
    unabsorbed_of_kept = unabsorbed_kept E.absorption diameter_of_kept

    pub heat_release_of_kept : R (heat_release_of A E) (heat_release_of B E)
    unfolding heat_release_of
    heat_release_of_kept = burning_kept (K.constant (E.rate * E.heat * E.area) 1000) unabsorbed_of_kept

    pub burning_rate_of_kept : R (burning_rate_of A E) (burning_rate_of B E)
    unfolding burning_rate_of
    burning_rate_of_kept = burning_kept (K.constant E.rate 1000) unabsorbed_of_kept

    froude_number_of_kept : R (froude_number_of A E) (froude_number_of B E)
    unfolding froude_number_of
    froude_number_of_kept = froude_number_kept diameter_of_kept burning_rate_of_kept

    -- L and E of each method, and of the method of the enquiry.
    flame_1_of_kept : Both R (flame_1_of A E) (flame_1_of B E)
    unfolding flame_1_of
    flame_1_of_kept =
        record { height = flame_height_kept diameter_of_kept heat_release_of_kept; power = emissive_power_1_kept diameter_of_kept }

    flame_2_of_kept : Both R (flame_2_of A E) (flame_2_of B E)
    unfolding flame_2_of
    flame_2_of_kept =
        let l = flame_height_kept diameter_of_kept heat_release_of_kept in
        record { height = l; power = emissive_power_2_kept diameter_of_kept heat_release_of_kept l }

    flame_3_of_kept : Both R (flame_3_of A E) (flame_3_of B E)
    unfolding flame_3_of
    flame_3_of_kept =
        record { height = flame_height_3_kept diameter_of_kept froude_number_of_kept; power = emissive_power_3_kept diameter_of_kept }

    flame_of_kept : Both R (flame_of A E) (flame_of B E)
    unfolding flame_of
    flame_of_kept =
        choice_kept (Both R) (eqb E.method 1) flame_1_of_kept (choice_kept (Both R) (eqb E.method 2) flame_2_of_kept flame_3_of_kept)

    pub flame_height_of_kept : R (flame_height_of A E) (flame_height_of B E)
    unfolding flame_height_of
    flame_height_of_kept = flame_of_kept.height

    pub emissive_power_of_kept : R (emissive_power_of A E) (emissive_power_of B E)
    unfolding emissive_power_of
    emissive_power_of_kept = flame_of_kept.power

    pub relative_height_of_kept : R (relative_height_of A E) (relative_height_of B E)
    unfolding relative_height_of
    relative_height_of_kept = in_radii_kept flame_height_of_kept diameter_of_kept

    pub relative_distance_of_kept : R (relative_distance_of A E) (relative_distance_of B E)
    unfolding relative_distance_of
    relative_distance_of_kept = in_radii_kept (K.constant E.distance 1000) diameter_of_kept

    relative_elevation_of_kept : R (relative_elevation_of A E) (relative_elevation_of B E)
    unfolding relative_elevation_of
    relative_elevation_of_kept = in_radii_kept (K.constant (nat_abs E.height) 1000) diameter_of_kept

    configuration_factor_of_kept : R (configuration_factor_of A E) (configuration_factor_of B E)
    unfolding configuration_factor_of
    configuration_factor_of_kept =
        factor_at_kept (non_neg E.height) E.face relative_height_of_kept relative_elevation_of_kept relative_distance_of_kept

    pub clear_flux_kept : R (clear_flux A E) (clear_flux B E)
    unfolding clear_flux
    clear_flux_kept = K.product emissive_power_of_kept configuration_factor_of_kept

    pub radiant_flux_kept : R (radiant_flux A E) (radiant_flux B E)
    unfolding radiant_flux
    radiant_flux_kept = transmitted_kept E.transmissivity clear_flux_kept
