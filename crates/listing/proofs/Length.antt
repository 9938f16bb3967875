-- The text of any bytes is at most 8,192 bytes long.
-- Assumes nothing.
use Prim.Native.Nat.{ℕ, zero, suc, ◌+◌, ◌*◌, ◌%◌, ◌≤◌, ◌<◌, zero-le}
use mathlib.Core.Path.{◌≡◌, refl, subst, ◌∙◌}
use mathlib.Core.Logic.{◌⊎◌, inl, inr}
use mathlib.Core.Bool.{Bool, true, false, cond}
use Rattle.std.specs.Prelude.{Option, None, Some}
use Rattle.std.specs.Option.{option_map}
use Rattle.sheet.proofs.Options.{none-ne-some, some-injective}
use mathlib.Core.List.{List, [], ◌∷◌}
use native.Mathlib.Nat.{le_trans, zero-add, mul-suc}
use native.Mathlib.Omega.{arith}
use mir.Syntax.{w32}
use mir.Val.{Fits}
use lib.ListN.{length, get_or, drop, length-append}
use lib.Dec.{eqb}
use Rattle.sheet.specs.Table.{Refused, Row, ◌at◌, scan, whole, core}
use Rattle.sheet.specs.Numbers.{word}
use Rattle.sheet.specs.Records.{Figures, task_count, core_count}
use Rattle.sheet.specs.Views.{is_grouped, is_stroked, positioned_in, figures}
use Rattle.fit.specs.Lists.{numbers, find, or_else, find_some, Each, joined}
use Rattle.fit.specs.Fits.{chain_break}
use Rattle.fit.proofs.Lists.{each_of, each_append, numbers_length}
use Rattle.fit.proofs.Priority.{order_members}
use Rattle.fit.specs.Cores.{order_on, within_on}
use Rattle.checker.specs.Tests.{task_spares, core_spares, bad_order, chain_break_on}
use Rattle.checker.specs.Rules.{offset, frame_rows, spare_rows, task_rows, core_rows, fit_rows, record_rows, part_rows, rules}
use Rattle.checker.specs.Accepted.{Acceptable, Fitting}
use Rattle.checker.specs.Verdict.{outcome, verdict}
use Rattle.checker.proofs.Acceptance.{accepted_exactly}
use Rattle.checker.proofs.Views.{views_fit}
use Rattle.listing.specs.Words.{space, line_feed}
use Rattle.listing.specs.Words as the
use Rattle.listing.specs.Listing.{header_line, task_line, load_of, core_line, sheet_text, refused_line, text_of, listing_of}
use Rattle.listing.proofs.Decimals.{field_short}
use Rattle.listing.proofs.Figures.{within_small}
use Rattle.listing.proofs.Laws.{load_range}

-- each line
fits : (x : ℕ) → x ≤ 120000 → Fits w32 x
fits x h = record { fits = omega arith }

header_short : (v n c : ℕ) → v ≤ 120000 → n ≤ 120000 → c ≤ 120000 → length (header_line v n c) ≤ 57
unfolding header_line
header_short v n c a b d =
    simp length-append
    (omega (arith, field_short the.mark v space (omega arith) (fits v a), field_short the.tasks n space (omega arith) (fits n b), field_short the.cores c line_feed (omega arith) (fits c d)))

refused_short : (number place : ℕ) → number ≤ 120000 → place ≤ 120000 → length (refused_line number place) ≤ 38
unfolding refused_line
refused_short number place a b =
    simp length-append
    (omega (arith, field_short the.refused number space (omega arith) (fits number a), field_short the.place place line_feed (omega arith) (fits place b)))

module _ (f : Figures) (g : Fitting f) (few : f.cores ≤ 8) where
  task_short : (i : ℕ) → i < f.tasks → i ≤ 64 → length (task_line f i) ≤ 114
  unfolding task_line within_on
  task_short i h s =
      let a = field_short the.task i space (omega arith) (fits _ (omega arith)) in
      let b = field_short the.core (f.core i) space (omega arith) (fits _ (omega (arith, g.tasks.core i h))) in
      let c = field_short the.period (f.period i) space (omega arith) (fits _ (omega (arith, (g.tasks.period i h).1))) in
      let d = field_short the.budget (f.budget i) space (omega arith) (fits _ (omega (arith, (g.tasks.budget i h).1, (g.tasks.period i h).1))) in
      let e = field_short the.factor (f.factor i) space (omega arith) (fits _ (g.cores.factor i h).1) in
      let w = field_short the.within (within_on f (f.core i) i) line_feed (omega arith) (fits _ (le_trans (within_small f i (f.core i) g h refl _ _ _ refl refl refl) (omega arith))) in
      simp length-append (omega (arith, a, b, c, d, e, w))

  core_short : (k : ℕ) → k < f.cores → length (core_line f k) ≤ 76
  unfolding core_line
  core_short k h =
      let a = field_short the.core k space (omega arith) (fits _ (omega arith)) in
      let b = field_short the.pivot (f.pivot k) space (omega arith) (fits _ (omega (arith, (g.cores.pivot k h).1))) in
      let c = field_short the.divisor (f.divisor k) space (omega arith) (fits _ (g.cores.divisor k h).1) in
      let d = field_short the.load (load_of f k) line_feed (omega arith) (fits _ (le_trans (load_range f k g h).1 (omega arith))) in
      simp length-append (omega (arith, a, b, c, d))

-- all of them
numbers_in : (a n : ℕ) → Each (λ i. i < a + n) (numbers a n)
unfolding Each numbers
numbers_in a zero = tt
numbers_in a (suc n) = (omega arith, each_of (numbers (suc a) n) (λ i h. omega arith) (numbers_in (suc a) n))

lines_short : (line : ℕ → List ℕ) (most : ℕ) (l : List ℕ) → Each (λ i. length (line i) ≤ most) l → length (joined line l) ≤ most * length l
unfolding joined Each
lines_short line most [] h = zero-le
lines_short line most (i ∷ l) h =
    simp length-append (omega (arith, h.0, lines_short line most l h.1, mul-suc most (length l)))

all_lines : (line : ℕ → List ℕ) (most n : ℕ) → ((i : ℕ) → i < n → length (line i) ≤ most) → length (joined line (numbers 0 n)) ≤ most * n
all_lines line most n h =
    rw (numbers_length 0 n) at (lines_short line most (numbers 0 n) (each_of (numbers 0 n) (λ i q. h i (rw zero-add at q)) (numbers_in 0 n)))

version_small : (v : ℕ) → (v ≡ 1) ⊎ ((v ≡ 2) ⊎ (v ≡ 3)) → v ≤ 120000
version_small v (inl e) = omega arith
version_small v (inr (inl e)) = omega arith
version_small v (inr (inr e)) = omega arith

accepted_short : (s : List ℕ) → Acceptable s → length (sheet_text (word s 3) (figures s)) ≤ 8192
unfolding sheet_text
accepted_short s t =
    let f : Figures = figures s in
    let g : Fitting f = (views_fit s t.order).0 t.fitting in
    let a = header_short (word s 3) f.tasks f.cores (version_small (word s 3) t.frame.version) (omega (arith, t.frame.tasks)) (omega (arith, t.frame.cores)) in
    let b = all_lines (task_line f) 114 f.tasks (λ i h. task_short f g t.frame.cores i h (omega (arith, t.frame.tasks))) in
    let c = all_lines (core_line f) 76 f.cores (core_short f g t.frame.cores) in
    simp length-append (omega (arith, a, b, c, t.frame.tasks, t.frame.cores))

-- what is found is one of those looked at
find_in : (P : ℕ → Type 0) (q : ℕ → Bool) (l : List ℕ) (x : ℕ) → Each P l → find q l ≡ Some x → P x
unfolding Each find
find_in P q [] x h e = absurd (none-ne-some x e)
find_in P q (i ∷ l) x h e = by (q i) refl e (find_in P q l x h.1)
  where
    by : (b : Bool) → q i ≡ b → cond b (Some i) (find q l) ≡ Some x → (find q l ≡ Some x → P x) → P x
    by true t e r = subst P (some-injective i x e) h.0
    by false t e r = r e

chain_in : (P : ℕ → Type 0) (M : ℕ → ℕ) (d : ℕ) (l : List ℕ) (x : ℕ) → Each P l → chain_break M d l ≡ Some x → P x
unfolding Each chain_break
chain_in P M d [] x h e = absurd (none-ne-some x e)
chain_in P M d (i ∷ l) x h e = by (eqb (M i % d) 0) e (chain_in P M (M i) l x h.1)
  where
    by : (b : Bool) → cond b (chain_break M (M i) l) (Some i) ≡ Some x → (chain_break M (M i) l ≡ Some x → P x) → P x
    by true e r = r e
    by false e r = subst P (some-injective i x e) h.0

some_in : (P : ℕ → Type 0) (f : ℕ → Option ℕ) (l : List ℕ) (x : ℕ) → ((i y : ℕ) → f i ≡ Some y → P y) → find_some f l ≡ Some x → P x
unfolding find_some
some_in P f [] x h e = absurd (none-ne-some x e)
some_in P f (i ∷ l) x h e = by (f i) refl e (some_in P f l x h)
  where
    by : (o : Option ℕ) → f i ≡ o → or_else o (find_some f l) ≡ Some x → (find_some f l ≡ Some x → P x) → P x
    by None t e r = r e
    by (Some y) t e r = h i x (t ∙ e)

-- a place that is small, and a row with a small number and place
Small : Option ℕ → Type 0
Small o = (x : ℕ) → o ≡ Some x → x ≤ 10000

RowIn : Row → Type 0
RowIn (k at o) = (k ≤ 25) × Small o

whole_in : (b : Bool) → Small (whole b)
unfolding whole Small
whole_in true x e = omega (arith, some-injective 0 x e)
whole_in false x e = absurd (none-ne-some x e)

shift_in : (a : ℕ) (o : Option ℕ) (x : ℕ) → ((y : ℕ) → o ≡ Some y → y ≤ 9000) → a ≤ 64 → option_map (λ k. a + k) o ≡ Some x → x ≤ 10000
shift_in a None x h s e = absurd (none-ne-some x e)
shift_in a (Some y) x h s e = omega (arith, h y refl, some-injective (a + y) x e)

core_in : (o : Option ℕ) → ((y : ℕ) → o ≡ Some y → y ≤ 9000) → Small (core o)
unfolding core Small
core_in o h x e = shift_in 64 o x h (omega arith) e

offset_in : (o : Option ℕ) → ((y : ℕ) → o ≡ Some y → y ≤ 9000) → Small (offset o)
unfolding offset Small
offset_in o h x e = shift_in 8 o x h (omega arith) e

-- a search among tasks, cores or spare bytes
found_in : (q : ℕ → Bool) (n : ℕ) → n ≤ 255 → (x : ℕ) → find q (numbers 0 n) ≡ Some x → x ≤ 9000
found_in q n h x e = omega (arith, find_in (λ i. i < 0 + n) q (numbers 0 n) x (numbers_in 0 n) e)

place_in : (q : ℕ → Bool) (n : ℕ) → n ≤ 255 → Small (find q (numbers 0 n))
unfolding Small
place_in q n h x e = omega (arith, found_in q n h x e)

task_spares_in : (stroked : Bool) (a n : ℕ) → Each (λ x. x ≤ a + 10 * n) (task_spares stroked a n)
unfolding Each task_spares
task_spares_in true a n = tt
task_spares_in false a zero = tt
task_spares_in false a (suc n) = (omega arith, each_of (task_spares false (a + 10) n) (λ x h. omega arith) (task_spares_in false (a + 10) n))

core_spares_in : (grouped : Bool) (a c : ℕ) → Each (λ x. x ≤ a + 8 * c) (core_spares grouped a c)
unfolding Each core_spares
core_spares_in grouped a zero = tt
core_spares_in true a (suc c) = (omega arith, each_of (core_spares true (a + 8) c) (λ x h. omega arith) (core_spares_in true (a + 8) c))
core_spares_in false a (suc c) = (omega arith, (omega arith, each_of (core_spares false (a + 8) c) (λ x h. omega arith) (core_spares_in false (a + 8) c)))

-- every row of the rules
frame_in : (s : List ℕ) → Each RowIn (frame_rows s)
unfolding Each RowIn frame_rows
frame_in s = ((omega arith, whole_in _), ((omega arith, whole_in _), ((omega arith, whole_in _), ((omega arith, whole_in _), ((omega arith, whole_in _), tt)))))

spare_in : (grouped stroked : Bool) (n c : ℕ) (s r : List ℕ) → n ≤ 255 → c ≤ 255 → Each RowIn (spare_rows grouped stroked n c s r)
unfolding Each RowIn Small spare_rows
spare_in grouped stroked n c s r hn hc = (
  (omega arith, λ x e. find_in (λ y. y ≤ 10000) _ (7 ∷ []) x (omega arith, tt) e),
  (
    (omega arith, offset_in _ (λ y e. omega (arith, find_in (λ y. y ≤ 0 + 10 * n) _ (task_spares stroked 0 n) y (task_spares_in stroked 0 n) e))),
    (
      (omega arith, offset_in _ (λ y e. omega (arith, find_in (λ y. y ≤ 10 * n + 8 * c) _ (core_spares grouped (10 * n) c) y (core_spares_in grouped (10 * n) c) e))),
      tt,
    ),
  ),
)

module _ (f : Figures) (hn : f.tasks ≤ 255) (hc : f.cores ≤ 255) where
  tasks_in : (b : Bool) → Each RowIn (task_rows b f)
  unfolding Each RowIn task_rows
  tasks_in b = ((omega arith, place_in _ _ hn), ((omega arith, place_in _ _ hn), ((omega arith, place_in _ _ hn), ((omega arith, whole_in b), ((omega arith, place_in _ _ hn), tt)))))

  cores_in : Each RowIn (core_rows f)
  unfolding Each RowIn core_rows
  cores_in = ((omega arith, core_in _ (found_in _ _ hc)), ((omega arith, place_in _ _ hn), ((omega arith, core_in _ (found_in _ _ hc)), ((omega arith, place_in _ _ hn), tt))))

  fits_in : Each RowIn (fit_rows f)
  unfolding Each RowIn Small fit_rows chain_break_on order_on
  fits_in = (
    (omega arith, λ x e. some_in (λ y. y ≤ 10000) (chain_break_on f) (numbers 0 f.cores) x (λ k y t. omega (arith, (chain_in (λ i. (i < f.tasks) × (f.core i ≡ k)) _ 1 (order_on f k) y (order_members f.period f.core k f.tasks) t).0)) e),
    ((omega arith, core_in _ (found_in _ _ hc)), tt),
  )

-- a byte of the sheet
byte_in : (s : List ℕ) (i : ℕ) → Each (λ b. b < 256) s → get_or s i 0 ≤ 255
unfolding Each
byte_in [] i h = zero-le
byte_in (b ∷ s) zero h = omega (arith, h.0)
byte_in (b ∷ s) (suc i) h = byte_in s i h.1

rules_in : (s : List ℕ) → Each (λ b. b < 256) s → Each RowIn (rules s)
unfolding rules part_rows record_rows
rules_in s b =
    let n = byte_in s 5 b in
    let c = byte_in s 6 b in
    let f : Figures = positioned_in (is_grouped s) (is_stroked s) (task_count s) (core_count s) (drop 8 s) in
    let o : Bool = bad_order (is_grouped s) f (drop 8 s) in
    each_append RowIn (frame_rows s) _ (frame_in s)
    (each_append RowIn (spare_rows (is_grouped s) (is_stroked s) (task_count s) (core_count s) s (drop 8 s)) _ (spare_in (is_grouped s) (is_stroked s) (task_count s) (core_count s) s (drop 8 s) n c)
    (each_append RowIn (task_rows o f) _ (tasks_in f n c o) (each_append RowIn (core_rows f) (fit_rows f) (cores_in f n c) (fits_in f n c))))

scan_in : (rows : List Row) (r : Refused) → Each RowIn rows → scan rows ≡ Some r → (r.number ≤ 25) × (r.place ≤ 10000)
unfolding Each RowIn Small scan
scan_in [] r h e = absurd (none-ne-some r e)
scan_in ((k at None) ∷ rows) r h e = scan_in rows r h.1 e
scan_in ((k at Some x) ∷ rows) r h e = subst (λ (t : Refused). (t.number ≤ 25) × (t.place ≤ 10000)) (some-injective _ r e) (h.0.0, h.0.1 x refl)

-- The text of any bytes is at most 8,192 bytes long.
pub listing_short : (s : List ℕ) → Each (λ b. b < 256) s → length (listing_of s) ≤ 8192
unfolding listing_of text_of verdict outcome
listing_short s b = by (scan (rules s)) refl
  where
    by : (o : Option Refused) → scan (rules s) ≡ o → length (text_of (outcome o (task_count s) (core_count s)) s) ≤ 8192
    by None e = accepted_short s ((accepted_exactly s (task_count s) (core_count s)).0 (rw e refl)).0
    by (Some r) e =
        let w = scan_in (rules s) r (rules_in s b) e in
        le_trans (refused_short r.number r.place (omega (arith, w.0)) (omega (arith, w.1))) (omega arith)
