-- The definition on short texts: two jobs among blanks, comments and both line ends; then texts that are wrong; then lines of jobs.
-- Assumes nothing.
use Rattle.std.proofs.Common.{◌≡◌, refl, ℕ, List, [], ◌∷◌}
use Rattle.std.specs.Prelude.{Result, Ok, Err}
use Rattle.jobtext.specs.declared.WrongLine.{WrongLine}
use Rattle.jobtext.specs.declared.Fault.{Fault}
use Rattle.jobtext.specs.declared.Fault.TheVariants.{NoJob, Large, Full}
use Rattle.jobtext.specs.Text.{in_line, step, run, finish, read_of, holding, line_from, line_of}

-- what a text is read as, with room for so many jobs
unfoldable reading : ℕ → List ℕ → Result ℕ WrongLine
reading room text = read_of (finish room text)

unfoldable wrong : ℕ → Fault → Result ℕ WrongLine
wrong line fault = Err (record { line = line; fault = fault })

-- "# 3x", then "3 1" and a carriage return, then nothing, then a tab, "300  7 #", and no line feed
good : List ℕ
good = 35 ∷ 32 ∷ 51 ∷ 120 ∷ 10 ∷ 51 ∷ 32 ∷ 49 ∷ 13 ∷ 10 ∷ 10 ∷ 9 ∷ 51 ∷ 48 ∷ 48 ∷ 32 ∷ 32 ∷ 55 ∷ 32 ∷ 35 ∷ []

good_read : reading 64 good ≡ Ok 8
unfolding in_line step run finish reading good
good_read = refl

good_jobs : holding (finish 64 good) [] ≡ 3 ∷ 0 ∷ 1 ∷ 0 ∷ 44 ∷ 1 ∷ 7 ∷ 0 ∷ []
unfolding in_line step run finish good
good_jobs = refl

-- with room for one job the second, on line 4, is one too many
no_room : reading 1 good ≡ wrong 4 Full
unfolding in_line step run finish reading wrong good
no_room = refl

-- "3", "3 1 5" on line 2, and "3 1;" are no jobs
one_number : reading 64 (51 ∷ []) ≡ wrong 1 NoJob
unfolding in_line step run finish reading wrong
one_number = refl

three_numbers : reading 64 (10 ∷ 51 ∷ 32 ∷ 49 ∷ 32 ∷ 53 ∷ []) ≡ wrong 2 NoJob
unfolding in_line step run finish reading wrong
three_numbers = refl

other_character : reading 64 (51 ∷ 32 ∷ 49 ∷ 59 ∷ []) ≡ wrong 1 NoJob
unfolding in_line step run finish reading wrong
other_character = refl

-- "3 65535" is a job; "65536 3" and "3 700000" have a number that is too large
largest : reading 64 (51 ∷ 32 ∷ 54 ∷ 53 ∷ 53 ∷ 51 ∷ 53 ∷ []) ≡ Ok 4
unfolding in_line step run finish reading
largest = refl

first_large : reading 64 (54 ∷ 53 ∷ 53 ∷ 51 ∷ 54 ∷ 32 ∷ 51 ∷ []) ≡ wrong 1 Large
unfolding in_line step run finish reading wrong
first_large = refl

second_large : reading 64 (51 ∷ 32 ∷ 55 ∷ 48 ∷ 48 ∷ 48 ∷ 48 ∷ 48 ∷ []) ≡ wrong 1 Large
unfolding in_line step run finish reading wrong
second_large = refl

-- "70000 x" is no job, and "70000 1" without room is one too many
large_and_wrong : reading 64 (55 ∷ 48 ∷ 48 ∷ 48 ∷ 48 ∷ 32 ∷ 120 ∷ []) ≡ wrong 1 NoJob
unfolding in_line step run finish reading wrong
large_and_wrong = refl

large_without_room : reading 0 (55 ∷ 48 ∷ 48 ∷ 48 ∷ 48 ∷ 32 ∷ 49 ∷ []) ≡ wrong 1 Full
unfolding in_line step run finish reading wrong
large_without_room = refl

-- the two jobs of the first text stand on lines 2 and 4; a third, which it has not, would be sought to its end
line_first : line_of 0 good ≡ 2
unfolding in_line step line_from line_of good
line_first = refl

line_second : line_of 1 good ≡ 4
unfolding in_line step line_from line_of good
line_second = refl

line_none : line_of 2 good ≡ 4
unfolding in_line step line_from line_of good
line_none = refl
