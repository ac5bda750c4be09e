-- Lines, fields and decimal numbers in a text of bytes.
use Rattle.std.specs.Prelude.{ℕ, ◌+◌, ◌-◌, ◌*◌, ◌^◌, min, cond, ◌&&◌, List, [], ◌∷◌, ◌++◌, length, Some, None, Ok, Err, Option, Result, ◌==◌, nat_le, nat_lt}
use Rattle.std.specs.Char.{is_ascii_digit}
use Rattle.std.specs.List.{before_first, after_first, slice_split}

-- what stands before the first mark: all of it where there is none
abbrev pub before : ℕ → List ℕ → List ℕ
before mark text = before_first (λ b. b == mark) text

-- what stands after the first mark: nothing where there is none
abbrev pub after : ℕ → List ℕ → List ℕ
after mark text = after_first (λ b. b == mark) text

-- the number that `value` and the decimal digits after it write
abbrev pub digits : ℕ → List ℕ → Option ℕ
digits value [] = Some value
digits value (b ∷ more) = cond (is_ascii_digit b) (digits (value * 10 + (b - 48)) more) None

-- the number, if it is below 2 ^ 64
abbrev pub below_2_64 : Option ℕ → Option ℕ
below_2_64 None = None
below_2_64 (Some n) = cond (nat_lt n (2 ^ 64)) (Some n) None

-- a number below 2 ^ 64 of one decimal digit or more
abbrev pub any_decimal : List ℕ → Option ℕ
any_decimal text = cond (nat_le 1 (length text)) (below_2_64 (digits 0 text)) None

-- a number of one to `limit` decimal digits, and of at most eighteen
abbrev pub decimal : ℕ → List ℕ → Option ℕ
decimal limit text = cond (nat_le 1 (length text) && nat_le (length text) (min limit 18)) (digits 0 text) None

-- what stands between the marks
abbrev pub pieces : ℕ → List ℕ → List (List ℕ)
pieces mark text = slice_split (λ b. b == mark) text

-- the fields of a line, one space apart: none where it is empty
abbrev pub fields : List ℕ → List (List ℕ)
fields line = cond (length line == 0) [] (pieces 32 line)

abbrev pub with_number : Option ℕ → (ℕ → Result (List ℕ) ℕ) → ℕ → Result (List ℕ) ℕ
with_number None go place = Err place
with_number (Some n) go place = go n

-- the numbers so far with those that the fields write, each of up to nine digits; or the place, from 1,
-- of the first field that writes none
abbrev pub read_fields : List ℕ → List (List ℕ) → Result (List ℕ) ℕ
read_fields sofar [] = Ok sofar
read_fields sofar (field ∷ more) = with_number (decimal 9 field) (λ n. read_fields (sofar ++ n ∷ []) more) (length sofar + 1)

-- the numbers on a line
abbrev pub numbers_on : List ℕ → Result (List ℕ) ℕ
numbers_on line = read_fields [] (fields line)
