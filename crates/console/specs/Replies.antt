-- The words of the console's answers.
use Rattle.std.specs.Prelude.{ℕ, List, ◌++◌, codes, decimal}
use Rattle.console.specs.declared.reply.Reply.{Reply}
use Rattle.console.specs.declared.reply.Reply.TheVariants.{Ready, Working, Found, NoPlan, Full, Do, Rest, No}

-- a word and a number; a word and two numbers
abbrev pub one : List ℕ → ℕ → List ℕ
one word n = word ++ decimal n

abbrev pub two : List ℕ → ℕ → ℕ → List ℕ
two word m n = word ++ (decimal m ++ (codes " " ++ decimal n))

-- the line, without the byte that ends it
abbrev pub words : Reply → List ℕ
words Ready = codes "ready"
words (Working n) = one (codes "working ") n
words (Found c n) = two (codes "found ") c n
words (NoPlan n) = one (codes "none ") n
words (Full n) = one (codes "full ") n
words (Do a c) = two (codes "do ") a c
words Rest = codes "rest"
words (No number place) = two (codes "no ") number place
