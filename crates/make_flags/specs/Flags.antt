-- What MAKEFLAGS says.
use Rattle.std.specs.Prelude.{ℕ, nat_eq, ◌+◌, ◌==◌, ◌&&◌, ◌||◌, nat_lt, not, if◌then◌else◌, Bool, false, List, [], ◌∷◌, drop, filter, length, map, take_while, Option, Some, None, unwrap_or, codes}
use Rattle.std.specs.List.{after_first, before_first, last_or, list_any, starts_with}
use Rattle.std.specs.Str.{bytes_eq}
use Rattle.make_flags.specs.Words.{Word, words_of}
use Rattle.make_flags.specs.Number.{number_of, is_negative}
use Rattle.make_flags.specs.declared.number.Number.{Number}
use Rattle.make_flags.specs.declared.flags.Flags.{Flags}
use Rattle.make_flags.specs.declared.flags.Jobserver.{Jobserver}
use Rattle.make_flags.specs.declared.flags.Jobserver.TheVariants.{Absent, Disabled, Fifo, Pair}

-- the option that names the jobserver, 17 bytes
abbrev pub auth : List ℕ
auth = codes "--jobserver-auth="

-- the letter `n`
abbrev pub is_n : ℕ → Bool
is_n b = b == 110

-- letters of options without values, with `n` among them
abbrev pub is_dry : List ℕ → Bool
is_dry word = not (starts_with nat_eq word (codes "-")) && list_any is_n word

-- Make stops before it does anything where its first word says so.
abbrev pub stops : List Word → Bool
stops [] = false
stops (word ∷ words) = is_dry word.text

-- Options are read up to a word `--`.
abbrev pub options_of : List Word → List Word
options_of words = take_while (λ word. not (bytes_eq word.text (codes "--"))) words

-- a word that is the option with any value
abbrev pub names_jobserver : Word → Bool
names_jobserver word = starts_with nat_eq word.text auth

-- A pair with a negative number is disabled.
abbrev pub jobserver_of_pair : Option Number → Option Number → Jobserver
jobserver_of_pair None second = Absent
jobserver_of_pair (Some first) None = Absent
jobserver_of_pair (Some first) (Some second) =
    if is_negative first || is_negative second then Disabled else Pair first.digits second.digits

-- `,`
abbrev pub is_comma : ℕ → Bool
is_comma b = b == 44

-- two numbers with `,` between them
abbrev pub pair_of : List ℕ → Jobserver
pair_of value = jobserver_of_pair (number_of (before_first is_comma value)) (number_of (after_first is_comma value))

-- `fifo:` and a path of at least one byte
abbrev pub is_fifo : List ℕ → Bool
is_fifo value = starts_with nat_eq value (codes "fifo:") && nat_lt 5 (length value)

-- the jobserver of an option's value, which begins at this byte of the text: the path is told by where it stands in the text
abbrev pub jobserver_of : ℕ → List ℕ → Jobserver
jobserver_of at value = if is_fifo value then Fifo (at + 5) (at + length value) else pair_of value

-- the jobserver that an option names
abbrev pub named_by : Word → Jobserver
named_by word = jobserver_of (word.at + 17) (drop 17 word.text)

-- The last option that names a jobserver decides. Where there is none, no jobserver is there.
abbrev pub jobserver_among : List Word → Jobserver
jobserver_among options = unwrap_or (last_or None (map named_by (filter names_jobserver options))) Absent

-- what words say
abbrev pub flags_among : List Word → Flags
flags_among words = record { stop = stops words; jobserver = jobserver_among (options_of words) }

-- No text has no words.
abbrev pub flags_of : Option (List ℕ) → Flags
flags_of None = flags_among []
flags_of (Some text) = flags_among (words_of text)
