-- Decimal digits: one step at a time, their value, and how many there are.
-- Assumes nothing.
use Prim.Native.Nat.{ℕ, zero, suc, ◌+◌, ◌*◌, ◌^◌, ◌/◌, ◌%◌, ◌≤◌, ◌<◌, max}
use mathlib.Core.Path.{◌≡◌, sym, ap, ap₂, ◌∙◌}
use mathlib.Core.List.{List, [], ◌∷◌, ◌++◌}
use native.Mathlib.Nat.{pow-suc}
use native.Mathlib.Omega.{arith}
use native.Mathlib.Decide.{dec_lt}
use borrow.Author.Tests.{lt-ltb, le-ltb}
use lib.ListN.{length, take, drop, set, length-append, take-append-drop}
use mir.Syntax.{w32}
use mir.Val.{Fits}
use Rattle.std.specs.Fmt as std
use Rattle.std.proofs.lemmas.Fmt.{decimal_from_appends, length-decimal-le_succ}
use Rattle.listing.specs.Decimal.{digits, decimal}
use Rattle.listing.specs.Listing.{field}
use Rattle.listing.specs.Steps.{Put, Capped}
use Rattle.listing.proofs.Writing.{put_here, put_join}

-- any two bounds above a number give the same digits
digits_bound : (k m x : ℕ) → x < k → x < m → digits k x ≡ digits m x
unfolding digits
digits_bound zero m x h h' = absurd (omega arith)
digits_bound (suc k) zero x h h' = absurd (omega arith)
digits_bound (suc k) (suc m) x h h' = by (dec_lt x 10) (λ q. digits_bound k m (x / 10) (omega arith) (omega arith))
  where
    by : Dec (x < 10) → (10 ≤ x → digits k (x / 10) ≡ digits m (x / 10)) → digits (suc k) x ≡ digits (suc m) x
    by (yes q) r = rw (lt-ltb x 10 q)
    by (no q) r = rw (r (omega (arith, q)))

pub decimal_one : (x : ℕ) → x < 10 → decimal x ≡ (48 + x) ∷ []
unfolding decimal digits
decimal_one x h = rw (lt-ltb x 10 h)

pub decimal_more : (x : ℕ) → 10 ≤ x → decimal x ≡ decimal (x / 10) ++ (48 + x % 10) ∷ []
unfolding decimal digits
decimal_more x h = rw (le-ltb x 10 h, digits_bound x (suc (x / 10)) (x / 10) (omega arith) (omega arith))

-- what holds of one digit, and of a number if of its tenth, holds of all numbers
pub decimal_induction : (P : ℕ → Type 0) → ((x : ℕ) → x < 10 → P x) → ((x : ℕ) → 10 ≤ x → P (x / 10) → P x) → (x : ℕ) → P x
decimal_induction P one more x = below (suc x) x (omega arith)
  where
    below : (k x : ℕ) → x < k → P x
    below zero x h = absurd (omega arith)
    below (suc k) x h = by (dec_lt x 10) (λ q. below k (x / 10) (omega arith))
      where
        by : Dec (x < 10) → (10 ≤ x → P (x / 10)) → P x
        by (yes q) r = one x q
        by (no q) r = more x (omega (arith, q)) (r (omega (arith, q)))

pub length_one : (x : ℕ) → x < 10 → length (decimal x) ≡ 1
length_one x h = ap length (decimal_one x h)

pub length_more : (x : ℕ) → 10 ≤ x → length (decimal x) ≡ length (decimal (x / 10)) + 1
length_more x h = ap length (decimal_more x h) ∙ length-append (decimal (x / 10)) ((48 + x % 10) ∷ [])

pub length_above : (x : ℕ) → 0 < length (decimal x)
length_above x = by (dec_lt x 10)
  where
    by : Dec (x < 10) → 0 < length (decimal x)
    by (yes h) = omega (arith, length_one x h)
    by (no h) = omega (arith, length_more x (omega (arith, h)))

-- a number below a power of ten has at most so many digits
pub digits_count : (k x : ℕ) → x < 10 ^ suc k → length (decimal x) ≤ suc k
digits_count zero x h = omega (arith, length_one x h)
digits_count (suc k) x h = by (dec_lt x 10) (λ q. digits_count k (x / 10) q)
  where
    by : Dec (x < 10) → (x / 10 < 10 ^ suc k → length (decimal (x / 10)) ≤ suc k) → length (decimal x) ≤ suc (suc k)
    by (yes q) r = omega (arith, length_one x q)
    by (no q) r =
        let e : 10 ^ suc (suc k) ≡ 10 ^ suc k * 10 = pow-suc 10 (suc k) in
        omega (arith, length_more x (omega (arith, q)), r (omega arith))

-- a number from a power of ten on has more, and so the logarithm counts them
ten_above : (k : ℕ) → 0 < 10 ^ k
ten_above zero = omega arith
ten_above (suc k) =
    let e : 10 ^ suc k ≡ 10 ^ k * 10 = pow-suc 10 k in
    omega (arith, ten_above k)

digits_reach : (k x : ℕ) → 10 ^ k ≤ x → suc k ≤ length (decimal x)
digits_reach zero x h = omega (arith, length_above x)
digits_reach (suc k) x h =
    let e : 10 ^ suc k ≡ 10 ^ k * 10 = pow-suc 10 k in
    let many : 10 ≤ x = omega (arith, ten_above k) in
    omega (arith, length_more x many, digits_reach k (x / 10) (omega arith))

pub digits_log : (x m k : ℕ) → m ≡ max x 1 → 10 ^ k ≤ m → m < 10 * 10 ^ k → length (decimal x) ≡ k + 1
digits_log x m zero e a b = omega (arith, length_one x (omega arith))
digits_log x m (suc k) e a b =
    let p : 10 ^ suc k ≡ 10 ^ k * 10 = pow-suc 10 k in
    let q : 10 ^ suc (suc k) ≡ 10 ^ suc k * 10 = pow-suc 10 (suc k) in
    let whole : m ≡ x = omega (arith, ten_above k) in
    omega (arith, digits_count (suc k) x (omega arith), digits_reach (suc k) x (omega arith))

-- they are those that std writes
pub decimal_std : (x : ℕ) → x < 2 ^ 64 → decimal x ≡ std.decimal x
unfolding decimal digits
decimal_std x h =
    let room = length-decimal-le_succ x h in
    decimal_from_appends digits (record { one = λ k n q. rw (lt-ltb n 10 q); more = λ k n q. rw (le-ltb n 10 q) }) (suc x) x h (omega arith)

-- the code writes them so that they end behind as many places as the logarithm says
module _ (out : List ℕ) (at x m k y : ℕ) (e : m ≡ max x 1) (a : 10 ^ k ≤ m) (b : m < 10 * 10 ^ k) (f : Fits w32 x) (s : y ≡ x) (r : at + length (decimal x) ≤ length out) where
  same : std.decimal y ≡ decimal x
  same = rw s (sym (decimal_std x (omega (arith, f.fits))))

  pub number_fits : length (std.decimal y) ≤ at + k + 1
  number_fits = rw same (omega (arith, digits_log x m k e a b))

  pub number_inside : at + k + 1 ≤ length out
  number_inside = omega (arith, digits_log x m k e a b)

  pub number_put : (new : List ℕ) (start : ℕ) → start + length (std.decimal y) ≡ at + k + 1 → drop start new ≡ std.decimal y ++ drop (at + k + 1) out → take start new ≡ take start out → Put out at (decimal x) new (at + k + 1)
  number_put new start p q t =
      let size : start + length (decimal x) ≡ at + k + 1 = rw same at p in
      let here : start ≡ at = omega (arith, digits_log x m k e a b) in
      record { bytes = sym (take-append-drop at new) ∙ ap₂ ◌++◌ (rw here at t) (rw (here, same) at q); next = omega (arith, digits_log x m k e a b); room = number_inside }

-- a field, as the code writes it
pub field_short : (text : List ℕ) (x end : ℕ) → length text ≤ 8 → Fits w32 x → length (field text x end) ≤ 19
unfolding field
field_short text x end h f = simp length-append (omega (arith, digits_count 9 x (omega arith)))

module _ (out mid text : List ℕ) (at next x : ℕ) (h : length text ≤ 8) (f : Fits w32 x) (r : at + 19 ≤ length out) (k : length mid ≡ length out) (p : Put out at text mid next) where
  pub field_number : next + length (decimal x) ≤ length mid
  field_number = omega (arith, digits_count 9 x (omega arith), p.next)

  module _ (mid₂ : List ℕ) (next₂ : ℕ) (k₂ : length mid₂ ≡ length mid) (q : Put mid next (decimal x) mid₂ next₂) where
    pub field_end : next₂ < length mid₂
    field_end = omega (arith, digits_count 9 x (omega arith), p.next, q.next)

    pub field_put : (end : ℕ) → Capped 19 out at (field text x end) (set mid₂ next₂ end) (next₂ + 1)
    unfolding field
    field_put end =
        let w : Put out at (field text x end) (set mid₂ next₂ end) (next₂ + 1) = put_join (put_here mid₂ next₂ end field_end) (put_join q p) in
        record { put = w; cap = omega (arith, w.next, field_short text x end h f) }

-- a number of one digit
pub number_room : (x at room : ℕ) → at + length (decimal x) ≤ room → at < room
number_room x at room r = omega (arith, length_above x)

pub number_one : (out : List ℕ) (at x d : ℕ) → x < 10 → d ≡ 48 + x → at < length out → Put out at (decimal x) (set out at d) (at + 1)
number_one out at x d h e r = rw (decimal_one x h, ← e) (put_here out at d r)
