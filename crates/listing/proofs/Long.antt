-- The bytes of an input past 713 do not matter.
-- Assumes nothing.
use Prim.Native.Nat.{ℕ, ◌≤◌}
use mathlib.Core.Path.{◌≡◌}
use mathlib.Core.List.{List}
use lib.ListN.{length, take}
use Rattle.checker.proofs.Long.{verdict_cut}
use Rattle.listing.specs.Listing.{text_of, listing_of}

-- A longer input has the listing of its first 713 bytes.
pub listing_cut : (s : List ℕ) → 713 ≤ length s → listing_of (take 713 s) ≡ listing_of s
unfolding listing_of text_of
listing_cut s h =
    let (k, cut, all) = verdict_cut s h in
    rw (cut, all)
