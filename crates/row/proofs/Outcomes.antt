-- Each way out of `tick_row`, as the code returns it.
-- Assumes nothing.
use Prim.Native.Nat.{ℕ, ◌<◌, ◌≤◌}
use mathlib.Core.Path.{◌≡◌, refl, sym, ap, ◌∙◌}
use mathlib.Core.List.{List, map}
use borrow.Author.Tests.{lt-ltb, le-ltb, ltb-true, ltb-false}
use lib.Dec.{ltb}
use mathlib.Core.Bool.{Bool, true, false, cond}
use native.Mathlib.Omega.{arith}
use lib.ListN.{length}
use Rattle.std.specs.Prelude.{Some, None, Result, Ok, Err}
use Rattle.std.specs.List.{position}
use Rattle.sheet.specs.declared.Rejection.{Rejection}
use Rattle.sheet.specs.declared.Refusal.TheVariants.{Foreign, Row as RowWord}
use Rattle.fit.specs.Lists.{place_of}
use Rattle.fit.proofs.Words.{place_position}
use Rattle.timing.specs.Calls.{tick}
use Rattle.state.specs.declared.Core.{Core}
use Rattle.state.specs.Operations.{step}
use Rattle.state.specs.State.{foreign}
use Rattle.row.specs.Row.{Outcome, ticked, refused, outcome_of, row_outcome, row_states, written, row_bytes}

-- what a search for the position tells
module _ {A : Type 0} (q : A → Bool) (l : List A) where
  found : (n : ℕ) → Some n ≡ position q l → (n ≡ place_of q l) × (n < length l)
  found n e = go (ltb (place_of q l) (length l)) refl (rw (← place_position q l) at e)
    where
      go : (b : Bool) → ltb (place_of q l) (length l) ≡ b → Some n ≡ cond b (Some (place_of q l)) None → (n ≡ place_of q l) × (n < length l)
      go true x y =
          let same : n ≡ place_of q l = cc in
          (same, rw same (ltb-true _ _ x))
      go false x y = absurd (let never : ◌≡◌ {A = ℕ} 0 1 = cc in omega arith)

  nowhere : None ≡ position q l → length l ≤ place_of q l
  nowhere e = go (ltb (place_of q l) (length l)) refl (rw (← place_position q l) at e)
    where
      go : (b : Bool) → ltb (place_of q l) (length l) ≡ b → None ≡ cond b (Some (place_of q l)) None → length l ≤ place_of q l
      go true x y = absurd (let never : ◌≡◌ {A = ℕ} 0 1 = cc in omega arith)
      go false x y = ltb-false _ _ x

-- what the call promises of an answer r, the states zs and the bytes ws
pub record Gives (ys : List Core) (bs : List ℕ) (r : Result (Unit {0}) (Rejection ℕ)) (zs : List Core) (ws : List ℕ) : Type 0 where
  pub answer : outcome_of r ≡ row_outcome ys (length bs)
  pub states : zs ≡ row_states (row_outcome ys (length bs)) ys
  pub bytes : ws ≡ row_bytes (row_outcome ys (length bs)) ys bs

module _ (ys : List Core) (bs : List ℕ) where
  -- it follows from the answer
  gives : (o : Outcome) (r : Result (Unit {0}) (Rejection ℕ)) (zs : List Core) (ws : List ℕ) → row_outcome ys (length bs) ≡ o → outcome_of r ≡ o → zs ≡ row_states o ys → ws ≡ row_bytes o ys bs → Gives ys bs r zs ws
  gives o r zs ws e a b c = record { answer = a ∙ sym e; states = b ∙ ap (λ o'. row_states o' ys) (sym e); bytes = c ∙ ap (λ o'. row_bytes o' ys bs) (sym e) }

  abbrev at : ℕ
  at = place_of foreign ys

  pub too_short : (w : Rejection ℕ) → length bs < length ys → w ≡ record { word = RowWord; place = 0 } → Gives ys bs (Err w) ys bs
  unfolding row_outcome row_states row_bytes
  too_short w h x = gives (refused 24 0) _ ys bs (rw (lt-ltb (length bs) (length ys) h)) (rw x) refl refl

  module _ (h : length ys ≤ length bs) where
    pub found_foreign : (n : ℕ) (w : Rejection ℕ) → Some n ≡ position foreign ys → w ≡ record { word = Foreign; place = n } → Gives ys bs (Err w) ys bs
    unfolding row_outcome row_states row_bytes
    found_foreign n w e x =
        let f = found foreign ys n e in
        let l : at < length ys = rw (sym f.0) f.1 in
        gives (refused 21 n) _ ys bs (rw (le-ltb (length bs) (length ys) h, lt-ltb at (length ys) l, f.0)) (rw x) refl refl

    pub all_ticked : None ≡ position foreign ys → (zs : List Core) (ws : List ℕ) → zs ≡ map (step tick) ys → ws ≡ written ys bs → Gives ys bs (Ok tt) zs ws
    unfolding row_outcome row_states row_bytes
    all_ticked e zs ws a b = gives ticked _ zs ws (rw (le-ltb (length bs) (length ys) h, le-ltb at (length ys) (nowhere foreign ys e))) refl a b
