-- What the items and the meanings of the code stand for.
use Rattle.lar_rules.specs.Declared.{Declared, Places, What, a_module, a_struct, a_const, a_function}
use Rattle.lar_names.specs.declared.meaning.Meaning.{Meaning}
use Rattle.lar_names.specs.declared.meaning.Meaning.TheVariants.{Module, Struct, Const, Function}

-- which declaration it is, by its number among those of its kind
abbrev pub meaning_as : Places → What → Meaning
meaning_as p a_module = Module
meaning_as p (a_struct s) = Struct p.structs
meaning_as p (a_const c) = Const p.consts
meaning_as p (a_function f) = Function p.functions

abbrev pub meaning_of : Places × Declared → Meaning
meaning_of m = meaning_as m.0 (m.1).what
