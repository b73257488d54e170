-- The words for the rules that a file may break.
use Rattle.std.specs.Prelude.{ℕ, List, codes}
use Rattle.object_format.specs.declared.fault.What.{What}
use Rattle.object_format.specs.declared.fault.What.TheVariants.{Magic, Version, Short, Symbol, Kind, Entry, Code, Call, Digest, Trailing, Long, Slots, Jump, Slot, Height, End}

abbrev pub word_of : What → List ℕ
word_of Magic = codes "magic"
word_of Version = codes "version"
word_of Short = codes "short"
word_of Symbol = codes "symbol"
word_of Kind = codes "kind"
word_of Entry = codes "entry"
word_of Code = codes "code"
word_of Call = codes "call"
word_of Digest = codes "digest"
word_of Trailing = codes "trailing"
word_of Long = codes "long"
word_of Slots = codes "slots"
word_of Jump = codes "jump"
word_of Slot = codes "slot"
word_of Height = codes "height"
word_of End = codes "end"
