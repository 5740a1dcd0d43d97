-- What SET_MOTOR_IP is to do, from its fields: each rule, from the tests that lead to it.
-- Assumes nothing.
use Prim.Native.Nat.{ℕ, ◌≤◌, ◌<◌}
use mathlib.Core.Path.{◌≡◌}
use mathlib.Core.Bool.{true, false}
use borrow.Author.Tests.{ne_eqb, le-leb, lt-leb}
use Rattle.travel.specs.Units.{percent}
use Rattle.travel.specs.declared.IpIndex.{IpIndex}
use Rattle.board.specs.Favourites.{is_number}
use Rattle.messages.specs.declared.favourites.Order.TheVariants.{Delete, Here, AtPercent}
use Rattle.messages.specs.Ips.{order_of, share_order}
use Rattle.std.specs.Prelude.{Some, None}

module _ (function : ℕ) (index : IpIndex) (value : ℕ) where
  pub sharing : function ≡ 4 → order_of function index value ≡ share_order value
  sharing f = rw f

  pub unnumbered : ¬ (function ≡ 4) → is_number index ≡ false → order_of function index value ≡ None
  unnumbered f i = rw (ne_eqb function 4 f, i)

module _ (function : ℕ) (index : IpIndex) (value : ℕ) (i : is_number index ≡ true) where
  pub deleting : function ≡ 0 → order_of function index value ≡ Some (Delete index)
  deleting f = rw (f, i)

  pub here : function ≡ 1 → order_of function index value ≡ Some (Here index)
  here f = rw (f, i)

  pub percent_beyond : function ≡ 3 → 100 < value → order_of function index value ≡ None
  percent_beyond f v = rw (f, i, lt-leb value 100 v)

  pub percent_at : function ≡ 3 → value ≤ 100 → order_of function index value ≡ Some (AtPercent index (percent value))
  percent_at f v = rw (f, i, le-leb value 100 v)

pub no_order : (function : ℕ) (index : IpIndex) (value : ℕ) → ¬ (function ≡ 4) → is_number index ≡ true
    → ¬ (function ≡ 0) → ¬ (function ≡ 1) → ¬ (function ≡ 3) → order_of function index value ≡ None
no_order function index value d i a b c = rw (ne_eqb function 4 d, i, ne_eqb function 0 a, ne_eqb function 1 b, ne_eqb function 3 c)
