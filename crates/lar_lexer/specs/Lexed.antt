-- The tokens of a file, or the diagnostic of the first byte at which none can be read.
use Rattle.std.specs.Prelude.{ℕ, zero, suc, ◌+◌, ◌-◌, ◌/◌, ◌%◌, nat_lt, if◌then◌else◌, List, [], ◌∷◌, ◌++◌, Result, Ok, Err, codes}
use Rattle.lar_tree.specs.declared.token.Token.{Token}
use Rattle.lar_source.specs.declared.file.Span.{Span}
use Rattle.lar_source.specs.declared.code.Code.{Code}
use Rattle.lar_source.specs.declared.code.Code.TheVariants.{UnexpectedByte, PastLimit}
use Rattle.lar_source.specs.Diagnostic.{Diagnostic}
use Rattle.lar_lexer.specs.declared.front.Fault.{Fault}
use Rattle.lar_lexer.specs.declared.front.Fault.TheVariants.{Unexpected, NameTooLong, NumberTooLarge}
use Rattle.lar_lexer.specs.declared.front.Front.{Front}
use Rattle.lar_lexer.specs.declared.front.Front.TheVariants as fronts
use Rattle.lar_lexer.specs.Front.{front}
use Rattle.lar_lexer.specs.Place.{step, beginning}

-- a digit of base 16, in lower case
abbrev pub hex_digit : ℕ → ℕ
hex_digit n = if nat_lt n 10 then 48 + n else 87 + n

abbrev pub hex_byte : ℕ → List ℕ
hex_byte b = hex_digit (b / 16) ∷ hex_digit (b % 16) ∷ []

-- what a fault is called, and what its text names: the byte, or the limit that is passed
abbrev pub code_of : Fault → Code
code_of (Unexpected b) = UnexpectedByte
code_of NameTooLong = PastLimit
code_of NumberTooLarge = PastLimit

abbrev pub argument_of : Fault → List ℕ
argument_of (Unexpected b) = hex_byte b
argument_of NameTooLong = codes "64"
argument_of NumberTooLarge = codes "9223372036854775807"

-- the diagnostic of a fault at a place in the file with this name
abbrev pub diagnostic : List ℕ → Span → Fault → Diagnostic
diagnostic file at fault = record { code = code_of fault; file = file; line = at.line; col = at.col; args = argument_of fault ∷ [] }

abbrev pub Outcome : Type 0
Outcome = Result (List Token) Diagnostic

abbrev pub with_front : List Token → Outcome → Outcome
with_front tokens (Ok more) = Ok (tokens ++ more)
with_front tokens (Err d) = Err d

-- what stands at a place, and the outcome from so many bytes behind it on
abbrev pub goes_on : List ℕ → Span → Front → (ℕ → Outcome) → Outcome
goes_on file at (fronts.Gap len) rest = rest len
goes_on file at (fronts.Token kind len) rest = with_front (record { kind = kind; span = at } ∷ []) (rest len)
goes_on file at (fronts.Fault fault) rest = Err (diagnostic file at fault)

-- the outcome from a place on, where so many bytes belong to what was begun before
abbrev pub lexed_from : List ℕ → ℕ → Span → List ℕ → Outcome
lexed_from file left at [] = Ok []
lexed_from file (suc left) at (b ∷ bs) = lexed_from file left (step at b) bs
lexed_from file zero at (b ∷ bs) = goes_on file at (front (b ∷ bs)) (λ len. lexed_from file (len - 1) (step at b) bs)

-- the tokens of the file with this name, number and bytes
abbrev pub lexed : List ℕ → ℕ → List ℕ → Outcome
lexed file number bytes = lexed_from file 0 (beginning number) bytes
