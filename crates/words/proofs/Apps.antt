-- What `clap` makes of the command for a table.
use Rattle.std.proofs.Common.{◌≡◌, ◌∙◌, refl, ap, ℕ, Bool, true, false, cond, not, ◌||◌, List, [], ◌∷◌, ◌++◌, map, Some, option_map, is_some}
use Rattle.std.specs.Prelude.{count_by}
use Rattle.std.specs.List.{list_all, list_any}
use Rattle.std.specs.Str.{bytes_eq}
use Rattle.clap.specs.Walk.{Rule, arg_by_id, arg_by_index, arg_by_long, is_early_multiple}
use Rattle.clap.specs.Simple.{Shape, built, filled, filled_from, is_in_order, is_simple, with_index}
use Rattle.clap.specs.Faults.{is_simple_and_free}
use Rattle.words.specs.Lines.{Choice, Text, choice_of}
use Rattle.words.specs.Reads.{app_for, app_with, files_rule, rule_for, rules_for}

-- an option of the table as `clap` builds it, and the file words
abbrev pub option_built : Text → Bool → Rule
option_built name takes_value = filled (rule_for (record { name = name; takes_value = takes_value }))

abbrev pub choice_built : Choice → Rule
choice_built choice = option_built choice.name choice.takes_value

abbrev pub files_built : Rule
files_built = with_index 1 (filled files_rule)

abbrev pub rules_built : List Choice → List Rule
rules_built table = map choice_built table ++ files_built ∷ []

pub rules_are : (table : List Choice) → filled_from 1 (rules_for table) ≡ rules_built table
rules_are [] = refl
rules_are (choice ∷ table) = ap (λ rules. choice_built choice ∷ rules) (rules_are table)

-- what is built, with these rules
abbrev pub shape_with : List Rule → Shape
shape_with rules = record (app_with rules).top { is_built = true; disable_help_subcommand = true }

pub shape_is : (table : List Choice) → built (app_for table) ≡ record { top = shape_with (rules_built table); subs = [] }
shape_is table = ap (λ rules. record { top = shape_with rules; subs = [] }) (rules_are table)

-- ---- the command is simple

simple_for : (table : List Choice) → list_all (λ a. a.is_simple) (rules_for table) ≡ true
simple_for [] = refl
simple_for (choice ∷ table) = simple_for table

simple_built : (table : List Choice) → list_all (λ a. a.is_simple) (rules_built table) ≡ true
simple_built [] = refl
simple_built (choice ∷ table) = simple_built table

free_built : (table : List Choice) → list_all (λ a. a.is_free) (rules_built table) ≡ true
free_built [] = refl
free_built (choice ∷ table) = free_built table

one_positional : (table : List Choice) → count_by (λ a. is_some a.index) (rules_built table) ≡ 1
one_positional [] = refl
one_positional (choice ∷ table) = one_positional table

none_early : (table : List Choice) → list_any (is_early_multiple 1) (rules_built table) ≡ false
none_early [] = refl
none_early (choice ∷ table) = none_early table

in_order_built : (table : List Choice) → is_in_order (rules_built table) ≡ true
in_order_built table = ap (λ n. not (list_any (is_early_multiple n) (rules_built table))) (one_positional table) ∙ ap not (none_early table)

pub simple_app : (table : List Choice) → is_simple (app_for table) ≡ true
simple_app table = rw (simple_for table, rules_are table, simple_built table, in_order_built table) refl

pub free_app : (table : List Choice) → is_simple_and_free (app_for table) ≡ true
free_app table = rw (simple_app table, rules_are table, free_built table) refl

-- ---- its arguments

pub by_long : (table : List Choice) (name : Text) → arg_by_long (rules_built table) name ≡ option_map choice_built (choice_of table name)
by_long [] name = refl
by_long (choice ∷ table) name = go (bytes_eq choice.name name) (by_long table name)
  where
    go : (b : Bool) → arg_by_long (rules_built table) name ≡ option_map choice_built (choice_of table name)
        → cond (b || false) (Some (choice_built choice)) (arg_by_long (rules_built table) name) ≡ option_map choice_built (cond b (Some choice) (choice_of table name))
    go true e = refl
    go false e = e

pub by_id : (table : List Choice) (x : ℕ) (xs : Text) → arg_by_id (rules_built table) (x ∷ xs) ≡ option_map choice_built (choice_of table (x ∷ xs))
by_id [] x xs = refl
by_id (choice ∷ table) x xs = go (bytes_eq choice.name (x ∷ xs)) (by_id table x xs)
  where
    go : (b : Bool) → arg_by_id (rules_built table) (x ∷ xs) ≡ option_map choice_built (choice_of table (x ∷ xs))
        → cond b (Some (choice_built choice)) (arg_by_id (rules_built table) (x ∷ xs)) ≡ option_map choice_built (cond b (Some choice) (choice_of table (x ∷ xs)))
    go true e = refl
    go false e = e

pub by_index : (table : List Choice) → arg_by_index (rules_built table) 1 ≡ Some files_built
by_index [] = refl
by_index (choice ∷ table) = by_index table
