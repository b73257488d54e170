-- Lists of members as parts of trees.
use Rattle.std.proofs.Common.{◌≡◌, List, [], ◌∷◌, ◌++◌, Option, Some, None, refl, sym, ap, ◌∙◌, append_assoc, append-nil}
use Rattle.lar_source.specs.declared.file.Span.{Span}
use Rattle.lar_tree.specs.declared.sign.Sign.TheVariants as sign
use Rattle.lar_tree.specs.declared.token.Token.{Token}
use Rattle.lar_tree.specs.declared.commas.Commas.{Commas}
use Rattle.lar_tree.specs.declared.commas.Member.{Member}
use Rattle.lar_tree.specs.declared.name.Name.{Name}
use Rattle.lar_tree.specs.declared.name.Path.{Path}
use Rattle.lar_tree.specs.declared.item.Angled.{Angled}
use Rattle.lar_tree.specs.declared.item.Generic.{Generic}
use Rattle.lar_tree.specs.Spelling.{sign_token, flat_path, flat_option}
use Rattle.lar_tree.specs.Commas.{flat_members, flat_commas}
use Rattle.lar_tree.specs.Types.{named_type, generic_type, MoreTypes, last_type, next_type, PlainArgs, angle_args, MoreArgs, last_arg, next_arg, flat_type, flat_types, flat_args, flat_arg, flat_more_args}
use Rattle.lar_tree.specs.Exprs.{PlainParts, no_parts, parts, MoreParts, last_part, next_part, PlainInits, no_inits, inits, MoreInits, last_init, next_init, flat_expr, flat_parts, flat_more_parts, flat_init, flat_inits, flat_more_inits, GroupedParts, GroupedMoreParts, GroupedInits, GroupedMoreInits}
use Rattle.lar_tree.specs.Items.{PlainField, flat_field, flat_generic, flat_name, flat_angled}
use Rattle.lar_grammar.specs.Symbols.{expr_member, init_member, field_member, arg_member, generic_member, name_member, type_member}
use Rattle.lar_grammar.proofs.Meaning.{OneOf, Behind, flat_behind, SomeOf, none_of, some_of, AngledOf, no_angle, in_angle, TypeOf}

-- two lists for two others
pub joined : (a b c d : List Token) → a ≡ c → b ≡ d → a ++ b ≡ c ++ d
joined a b c d p q = ap (λ x. x ++ b) p ∙ ap (λ x. c ++ x) q

behind : (comma : Span) (a b c d : List Token) → a ≡ c → b ≡ d → sign_token sign.Comma comma ∷ (a ++ b) ≡ sign_token sign.Comma comma ∷ (c ++ d)
behind comma a b c d p q = ap (λ x. sign_token sign.Comma comma ∷ x) (joined a b c d p q)

-- ---- further members

pub more_parts_of : (bs : List (Behind expr_member)) → (m : MoreParts) × GroupedMoreParts m × (flat_more_parts m ≡ flat_behind bs)
more_parts_of [] = (last_part, tt, refl)
more_parts_of (b ∷ bs) =
    let r = more_parts_of bs in
    (next_part b.comma b.one.0 r.0, (b.one.1, r.1), behind b.comma (flat_expr b.one.0) (flat_more_parts r.0) b.tokens (flat_behind bs) b.one.3 r.2)

pub more_inits_of : (bs : List (Behind init_member)) → (m : MoreInits) × GroupedMoreInits m × (flat_more_inits m ≡ flat_behind bs)
more_inits_of [] = (last_init, tt, refl)
more_inits_of (b ∷ bs) =
    let r = more_inits_of bs in
    let i = b.one.0 in
    (next_init b.comma i.0 i.1 i.2 r.0, (b.one.1, r.1), behind b.comma (flat_init i) (flat_more_inits r.0) b.tokens (flat_behind bs) b.one.2 r.2)

pub more_args_of : (bs : List (Behind arg_member)) → (m : MoreArgs) × (flat_more_args m ≡ flat_behind bs)
more_args_of [] = (last_arg, refl)
more_args_of (b ∷ bs) =
    let r = more_args_of bs in
    (next_arg b.comma b.one.0 r.0, behind b.comma (flat_arg b.one.0) (flat_more_args r.0) b.tokens (flat_behind bs) b.one.1 r.1)

pub more_types_of : (bs : List (Behind type_member)) → (m : MoreTypes) × (flat_types m ≡ flat_behind bs)
more_types_of [] = (last_type, refl)
more_types_of (b ∷ bs) =
    let r = more_types_of bs in
    (next_type b.comma b.one.0 r.0, behind b.comma (flat_type b.one.0) (flat_types r.0) b.tokens (flat_behind bs) b.one.1 r.1)

pub fields_of : (bs : List (Behind field_member)) → (m : List (Member PlainField)) × (flat_members flat_field m ≡ flat_behind bs)
fields_of [] = ([], refl)
fields_of (b ∷ bs) =
    let r = fields_of bs in
    (record { comma = b.comma; value = b.one.0 } ∷ r.0, behind b.comma (flat_field b.one.0) (flat_members flat_field r.0) b.tokens (flat_behind bs) b.one.1 r.1)

pub names_of : (bs : List (Behind name_member)) → (m : List (Member Name)) × (flat_members flat_name m ≡ flat_behind bs)
names_of [] = ([], refl)
names_of (b ∷ bs) =
    let r = names_of bs in
    (record { comma = b.comma; value = b.one.0 } ∷ r.0, behind b.comma (flat_name b.one.0) (flat_members flat_name r.0) b.tokens (flat_behind bs) b.one.1 r.1)

pub generics_of : (bs : List (Behind generic_member)) → (m : List (Member Generic)) × (flat_members flat_generic m ≡ flat_behind bs)
generics_of [] = ([], refl)
generics_of (b ∷ bs) =
    let r = generics_of bs in
    (record { comma = b.comma; value = b.one.0 } ∷ r.0, behind b.comma (flat_generic b.one.0) (flat_members flat_generic r.0) b.tokens (flat_behind bs) b.one.1 r.1)

-- ---- a list or none

pub parts_of : (f : List Token) → SomeOf expr_member f → (ps : PlainParts) × GroupedParts ps × (flat_parts ps ≡ f)
parts_of f (none_of e) = (no_parts, tt, sym e)
parts_of f (some_of first one bs e) =
    let r = more_parts_of bs in
    (parts one.0 r.0, (one.1, r.1), joined (flat_expr one.0) (flat_more_parts r.0) first (flat_behind bs) one.3 r.2 ∙ e)

pub inits_of : (f : List Token) → SomeOf init_member f → (is : PlainInits) × GroupedInits is × (flat_inits is ≡ f)
inits_of f (none_of e) = (no_inits, tt, sym e)
inits_of f (some_of first one bs e) =
    let r = more_inits_of bs in
    let i = one.0 in
    (inits i.0 i.1 i.2 r.0, (one.1, r.1), joined (flat_init i) (flat_more_inits r.0) first (flat_behind bs) one.2 r.2 ∙ e)

pub field_list_of : (f : List Token) → SomeOf field_member f → (o : Option (Commas PlainField)) × (flat_option (flat_commas flat_field) o ≡ f)
field_list_of f (none_of e) = (None, sym e)
field_list_of f (some_of first one bs e) =
    let r = fields_of bs in
    (Some (record { first = one.0; more = r.0 }), joined (flat_field one.0) (flat_members flat_field r.0) first (flat_behind bs) one.1 r.1 ∙ e)

-- ---- a list in angle brackets or none

-- the tokens of a list in angle brackets
within : (from to : Span) (a b c d f : List Token) → a ≡ c → b ≡ d → sign_token sign.Less from ∷ (c ++ (d ++ sign_token sign.Greater to ∷ [])) ≡ f → sign_token sign.Less from ∷ (a ++ (b ++ sign_token sign.Greater to ∷ [])) ≡ f
within from to a b c d f p q e = ap (λ x. sign_token sign.Less from ∷ x) (joined a (b ++ sign_token sign.Greater to ∷ []) c (d ++ sign_token sign.Greater to ∷ []) p (ap (λ x. x ++ sign_token sign.Greater to ∷ []) q)) ∙ e

-- the same, as lists with commas have them
within_commas : (from to : Span) (a b c d f : List Token) → a ≡ c → b ≡ d → sign_token sign.Less from ∷ (c ++ (d ++ sign_token sign.Greater to ∷ [])) ≡ f → sign_token sign.Less from ∷ ((a ++ b) ++ sign_token sign.Greater to ∷ []) ≡ f
within_commas from to a b c d f p q e = ap (λ x. sign_token sign.Less from ∷ x) (append_assoc a b (sign_token sign.Greater to ∷ [])) ∙ within from to a b c d f p q e

-- arguments in angle brackets
pub args_of : (from to : Span) (first f : List Token) → OneOf arg_member first → (bs : List (Behind arg_member)) → sign_token sign.Less from ∷ (first ++ (flat_behind bs ++ sign_token sign.Greater to ∷ [])) ≡ f → (a : PlainArgs) × (flat_args a ≡ f)
args_of from to first f one bs e =
    let r = more_args_of bs in
    (angle_args from one.0 r.0 to, within from to (flat_arg one.0) (flat_more_args r.0) first (flat_behind bs) f one.1 r.1 e)

pub path_type_of : (p : Path) (f : List Token) → AngledOf arg_member f → TypeOf (flat_path p ++ f)
path_type_of p f (no_angle e) = (named_type p, sym (ap (λ x. flat_path p ++ x) e ∙ append-nil (flat_path p)))
path_type_of p f (in_angle from first one bs to e) =
    let a = args_of from to first f one bs e in
    (generic_type p a.0, ap (λ x. flat_path p ++ x) a.1)

pub angled_names_of : (f : List Token) → AngledOf name_member f → (o : Option (Angled Name)) × (flat_option (flat_angled flat_name) o ≡ f)
angled_names_of f (no_angle e) = (None, sym e)
angled_names_of f (in_angle from first one bs to e) =
    let r = names_of bs in
    (Some (record { «open» = from; list = record { first = one.0; more = r.0 }; close = to }), within_commas from to (flat_name one.0) (flat_members flat_name r.0) first (flat_behind bs) f one.1 r.1 e)

pub angled_generics_of : (f : List Token) → AngledOf generic_member f → (o : Option (Angled Generic)) × (flat_option (flat_angled flat_generic) o ≡ f)
angled_generics_of f (no_angle e) = (None, sym e)
angled_generics_of f (in_angle from first one bs to e) =
    let r = generics_of bs in
    (Some (record { «open» = from; list = record { first = one.0; more = r.0 }; close = to }), within_commas from to (flat_generic one.0) (flat_members flat_generic r.0) first (flat_behind bs) f one.1 r.1 e)
