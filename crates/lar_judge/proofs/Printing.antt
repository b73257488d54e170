-- The text of a type by the names that are there is that of the rules.
use Rattle.std.proofs.Common.{◌≡◌, ℕ, List, [], ◌∷◌, ◌++◌, refl, ap, ◌∙◌, append_assoc, append-nil}
use Rattle.std.specs.Prelude.{codes}
use Rattle.lar_source.specs.declared.file.Span.{Span}
use Rattle.lar_source.specs.declared.code.Code.TheVariants.{WrongType}
use Rattle.type_table.specs.TypeOf.{TypeOf, int, bool, param, number, end, more, tuple, struct}
use Rattle.type_table.specs.declared.decl.StructDecl.{StructDecl}
use Rattle.type_sizes.specs.Spelling.{struct_text, generic_text, comma, angled, text_of}
use Rattle.lar_rules.specs.Fault.{fault}
use Rattle.lar_rules.specs.Printed as rules
use Rattle.lar_rules.specs.Written.{Site}
use Rattle.lar_rules.specs.Judged.{other_type, printed}
use Rattle.lar_judge.specs.declared.here.Here.{Here}
use Rattle.lar_judge.specs.Here.{IsHere}

others_same : (ts : TypeOf) (x text : List ℕ) → (ts ≡ end → text ≡ []) → (x ++ comma ts) ++ text ≡ x ++ rules.others_text ts text
others_same end x text h = ap (λ (y : List ℕ). (x ++ []) ++ y) (h refl) ∙ append-nil (x ++ [])
others_same int x text h = append_assoc x (codes ",") text
others_same bool x text h = append_assoc x (codes ",") text
others_same (param k) x text h = append_assoc x (codes ",") text
others_same (number v) x text h = append_assoc x (codes ",") text
others_same (more t ts) x text h = append_assoc x (codes ",") text
others_same (tuple ts) x text h = append_assoc x (codes ",") text
others_same (struct n ts) x text h = append_assoc x (codes ",") text

angled_same : (ts : TypeOf) (text : List ℕ) → angled ts text ≡ rules.angled_text ts text
angled_same end text = refl
angled_same int text = refl
angled_same bool text = refl
angled_same (param k) text = refl
angled_same (number v) text = refl
angled_same (more t ts) text = refl
angled_same (tuple ts) text = refl
angled_same (struct n ts) text = refl

pub same_text : (structs : List StructDecl) (generics : List (List ℕ)) (path name : ℕ → List ℕ) → ((n : ℕ) → struct_text structs n ≡ path n) → ((k : ℕ) → generic_text generics k ≡ name k) → (t : TypeOf) → text_of structs generics t ≡ rules.type_text path name t
same_text structs generics path name p q int = refl
same_text structs generics path name p q bool = refl
same_text structs generics path name p q (param k) = q k
same_text structs generics path name p q (number v) = refl
same_text structs generics path name p q end = refl
same_text structs generics path name p q (more t ts) =
    let first : text_of structs generics t ≡ rules.type_text path name t = same_text structs generics path name p q t in
    let others : text_of structs generics ts ≡ rules.type_text path name ts = same_text structs generics path name p q ts in
    ap (λ (x : List ℕ). (x ++ comma ts) ++ text_of structs generics ts) first ∙ ap (λ (x : List ℕ). (rules.type_text path name t ++ comma ts) ++ x) others
    ∙ others_same ts (rules.type_text path name t) (rules.type_text path name ts) (λ e. ap (rules.type_text path name) e)
same_text structs generics path name p q (tuple ts) = ap (λ (x : List ℕ). codes "(" ++ (x ++ codes ")")) (same_text structs generics path name p q ts)
same_text structs generics path name p q (struct n ts) =
    ap (λ (x : List ℕ). x ++ angled ts (text_of structs generics ts)) (p n)
    ∙ ap (λ (x : List ℕ). path n ++ angled ts x) (same_text structs generics path name p q ts)
    ∙ ap (λ (x : List ℕ). path n ++ x) (angled_same ts (rules.type_text path name ts))

-- the fault with these texts is that of the rules
pub other_same : (h : Here) (s : Site) (at : Span) (t u : TypeOf) (args : List (List ℕ)) → IsHere h s → args ≡ text_of h.structs.now h.generics.now t ∷ text_of h.structs.now h.generics.now u ∷ [] → fault h.file at WrongType args ≡ other_type s at t u
other_same h s at t u args here is =
    let text : (v : TypeOf) → text_of h.structs.now h.generics.now v ≡ printed s v = same_text h.structs.now h.generics.now (rules.struct_path s.all) (rules.generic_text s.generics) here.structs here.generics in
    ap (λ (x : List (List ℕ)). fault h.file at WrongType x) is
    ∙ ap (λ (f : ℕ). fault f at WrongType (text_of h.structs.now h.generics.now t ∷ text_of h.structs.now h.generics.now u ∷ [])) here.file
    ∙ ap (λ (x : List ℕ). fault s.file at WrongType (x ∷ text_of h.structs.now h.generics.now u ∷ [])) (text t)
    ∙ ap (λ (x : List ℕ). fault s.file at WrongType (printed s t ∷ x ∷ [])) (text u)

-- two texts that were put into a list one after the other
pub two_texts : (a b c : List (List ℕ)) (x y t u : List ℕ) → a ≡ [] → b ≡ a ++ x ∷ [] → c ≡ b ++ y ∷ [] → x ≡ t → y ≡ u → c ≡ t ∷ u ∷ []
two_texts a b c x y t u p q r e f = cc
