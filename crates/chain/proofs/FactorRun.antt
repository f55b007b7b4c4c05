-- Step 7 as a sweep runs it: what depends on e alone is worked once for a row of boxes, u, v and the tilt once for both faces,
-- each atan with one power after another. It keeps what the definition keeps. Assumes nothing.
use Rattle.pairs.specs.Arithmetic.{Arithmetic}
use Rattle.pairs.specs.Series.{one, atan, pi}
use Rattle.pairs.proofs.Kept.{Kept, one_kept, pi_kept}
use Rattle.pairs.proofs.Running.{atan_run, atan_run_kept}
use Rattle.chain.specs.Chain as chain
use Rattle.chain.specs.Chain.{u, v, tilt, height_angle, vertical_ratio, vertical, horizontal_ratio, horizontal}
use Rattle.chain.proofs.Steps.{x_kept, g_kept, r_kept}

-- What the faces need of e.
pub record Row (A : Arithmetic) : Type 0 where
  pub x : A.Carrier
  pub x·x : A.Carrier
  pub g·g : A.Carrier
  pub e·e : A.Carrier
  pub e·g : A.Carrier
  pub r : A.Carrier
  pub atan_r : A.Carrier
  -- atan(root(g/e))
  pub atan_root : A.Carrier
  pub root_e·g : A.Carrier
  pub pi : A.Carrier

pub record Faces (A : Arithmetic) : Type 0 where
  pub upright : A.Carrier
  pub level : A.Carrier

module _ (A : Arithmetic) where
  unfoldable pub row_run : A.Carrier → Row A
  row_run e =
      let x = chain.x A e in
      let g = chain.g A e in
      let r = chain.r A e in
      record {
        x = x;
        x·x = A.product x x;
        g·g = A.product g g;
        e·e = A.product e e;
        e·g = A.product e g;
        r = r;
        atan_r = atan_run A r;
        atan_root = atan_run A (A.root (A.quotient g e));
        root_e·g = A.root (A.product e g);
        pi = pi A;
      }

  -- (B.2) and (B.4), from l and the row of e.
  unfoldable pub faces_run : Row A → A.Carrier → Faces A
  faces_run E l =
      let l·l = A.product l l in
      let u = A.root (A.sum l·l E.g·g) in
      let v = A.root (A.sum l·l E.e·e) in
      let u·v = A.product u v in
      let tilted = atan_run A (A.quotient (A.product E.r u) v) in
      let l_over_x = A.quotient l E.x in
      let height = A.quotient (atan_run A (A.quotient l E.root_e·g)) E.x in
      let ratio = A.quotient (A.sum (A.sum l·l E.x·x) (one A)) u·v in
      record {
        upright = A.quotient (A.difference (A.sum height (A.product (A.product l_over_x ratio) tilted)) (A.product l_over_x E.atan_r)) E.pi;
        level = A.quotient (A.difference E.atan_root (A.product (A.quotient (A.sum l·l E.e·g) u·v) tilted)) E.pi;
      }

pub record RowKept (A B : Arithmetic) (R : A.Carrier → B.Carrier → Type 0) (e : A.Carrier) (E : Row B) : Type 0 where
  pub x : R (chain.x A e) E.x
  pub x·x : R (A.product (chain.x A e) (chain.x A e)) E.x·x
  pub g·g : R (A.product (chain.g A e) (chain.g A e)) E.g·g
  pub e·e : R (A.product e e) E.e·e
  pub e·g : R (A.product e (chain.g A e)) E.e·g
  pub r : R (chain.r A e) E.r
  pub atan_r : R (atan A (chain.r A e)) E.atan_r
  pub atan_root : R (atan A (A.root (A.quotient (chain.g A e) e))) E.atan_root
  pub root_e·g : R (A.root (A.product e (chain.g A e))) E.root_e·g
  pub pi : R (pi A) E.pi

module _ {A B : Arithmetic} {R : A.Carrier → B.Carrier → Type 0} (K : Kept A B R) where
  pub row_run_kept : {e : A.Carrier} {c : B.Carrier} → R e c → RowKept A B R e (row_run B c)
  unfolding row_run
  row_run_kept h =
      let x = x_kept K h in
      let g = g_kept K h in
      let r = r_kept K h in
      record {
        x = x;
        x·x = K.product x x;
        g·g = K.product g g;
        e·e = K.product h h;
        e·g = K.product h g;
        r = r;
        atan_r = atan_run_kept K r;
        atan_root = atan_run_kept K (K.root (K.quotient g h));
        root_e·g = K.root (K.product h g);
        pi = pi_kept K;
      }

  module _ {l e : A.Carrier} {b : B.Carrier} {E : Row B} (h : R l b) (k : RowKept A B R e E) where
    u_run_kept : R (u A l e) (B.root (B.sum (B.product b b) E.g·g))
    unfolding u
    u_run_kept = K.root (K.sum (K.product h h) k.g·g)

    v_run_kept : R (v A l e) (B.root (B.sum (B.product b b) E.e·e))
    unfolding v
    v_run_kept = K.root (K.sum (K.product h h) k.e·e)

    pub upright_kept : R (vertical A l e) (faces_run B E b).upright
    unfolding vertical height_angle vertical_ratio tilt faces_run
    upright_kept =
        let tilted = atan_run_kept K (K.quotient (K.product k.r u_run_kept) v_run_kept) in
        let ratio = K.quotient (K.sum (K.sum (K.product h h) k.x·x) (one_kept K)) (K.product u_run_kept v_run_kept) in
        let l_over_x = K.quotient h k.x in
        let height = K.quotient (atan_run_kept K (K.quotient h k.root_e·g)) k.x in
        K.quotient (K.difference (K.sum height (K.product (K.product l_over_x ratio) tilted)) (K.product l_over_x k.atan_r)) k.pi

    pub level_kept : R (horizontal A l e) (faces_run B E b).level
    unfolding horizontal horizontal_ratio tilt faces_run
    level_kept =
        let tilted = atan_run_kept K (K.quotient (K.product k.r u_run_kept) v_run_kept) in
        let ratio = K.quotient (K.sum (K.product h h) k.e·g) (K.product u_run_kept v_run_kept) in
        K.quotient (K.difference k.atan_root (K.product ratio tilted)) k.pi
