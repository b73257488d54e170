-- The sources that are made from a seed.
use Rattle.std.specs.Prelude.{ℕ, ◌+◌, ◌-◌, ◌*◌, ◌%◌, ◌==◌, if◌then◌else◌, List, [], ◌∷◌, ◌++◌, map, codes}
use Rattle.std.specs.List.{concat, flat_map, range_with_len}
use Rattle.std.specs.Fmt.{decimal}
use Rattle.lar_source.specs.declared.file.File.{File}
use Rattle.source_gen.specs.Draws.{drawn, state_after}
use Rattle.source_gen.specs.declared.texts.Numbers.{Numbers}

-- Three draws give a module's numbers, where the state is x before them.
abbrev pub numbers_from : ℕ → Numbers
numbers_from x = record { constant = drawn 0 x % 100 + 1; factor = drawn 1 x % 9 + 1; bound = drawn 2 x % 20 + 1 }

-- the module of which module k calls `mix`: the one before, and of module 0 the last
abbrev pub before : ℕ → ℕ → ℕ
before modules k = if k == 0 then modules - 1 else k - 1

-- the text of a module with these numbers that calls module p
abbrev pub module_text : ℕ → Numbers → List ℕ
module_text p numbers = concat (
    codes "const C: i64 = " ∷ decimal numbers.constant ∷ codes ";\n"
    ∷ codes "#[inline]\n"
    ∷ codes "fn mix(x: i64) -> i64 { return x * " ∷ decimal numbers.factor ∷ codes " + C; }\n"
    ∷ codes "fn twice<T>(x: T) -> (T, T) { return (x, x); }\n"
    ∷ codes "fn work(n: i64) -> i64 {\n"
    ∷ codes "let s: i64 = n;\n"
    ∷ codes "let i: i64 = 0;\n"
    ∷ codes "while i < " ∷ decimal numbers.bound ∷ codes " {\n"
    ∷ codes "s = mix(s) + m" ∷ decimal p ∷ codes "::mix(i);\n"
    ∷ codes "i = i + 1;\n"
    ∷ codes "}\n"
    ∷ codes "let p: (i64, i64) = twice::<i64>(s);\n"
    ∷ codes "return p.0 % 1000003;\n"
    ∷ codes "}\n"
    ∷ [])

-- mK.larch
abbrev pub module_name : ℕ → List ℕ
module_name k = concat (codes "m" ∷ decimal k ∷ codes ".larch" ∷ [])

-- the file of module k, where the state is x before its draws
abbrev pub module_file : ℕ → ℕ → ℕ → File
module_file modules x k = record { name = module_name k; bytes = module_text (before modules k) (numbers_from x) }

-- the line of `main` that calls module k
abbrev pub call_line : ℕ → List ℕ
call_line k = concat (codes "print(m" ∷ decimal k ∷ codes "::work(" ∷ decimal (k + 1) ∷ codes "));\n" ∷ [])

-- `main` calls each module in order.
abbrev pub main_text : ℕ → List ℕ
main_text modules = codes "fn main() {\n" ++ (flat_map call_line (range_with_len 0 modules) ++ codes "}\n")

-- the file of `main`
abbrev pub main_file : ℕ → File
main_file modules = record { name = codes "main.larch"; bytes = main_text modules }

-- The main file comes first, then the modules in order. Before module k there were three draws for each earlier one.
abbrev pub files_of : ℕ → ℕ → List File
files_of seed modules = main_file modules ∷ map (λ k. module_file modules (state_after (3 * k) seed) k) (range_with_len 0 modules)
