-- Whatever is read, as many bytes stand before the rest as were read.
use Rattle.std.proofs.Common.{◌≡◌, ℕ, ◌+◌, ◌≤◌, cond, ltb, List, length, take, Option, Some, None, Ok, sym, ap, ◌∙◌, arith, length-drop, inl, inr}
use Rattle.std.specs.Int.{Width, w16, w32, byte_len}
use Rattle.std.specs.Str.{bytes_eq}
use Rattle.std.proofs.lemmas.Bool.{cases_Bool, ltb-false}
use Rattle.object_format.specs.declared.fault.What.{What}
use Rattle.object_format.specs.declared.fault.What.TheVariants as what
use Rattle.object_format.specs.Reading.{Rest, ◌>>=◌, refused, after, block_at, number_at, fixed_at, known, opening_at}
use Rattle.object_format.specs.Version.{version_of}
use Rattle.object_format.specs.declared.version.Version.{Version}
use Rattle.object_format.specs.declared.version.Version.TheVariants.{Two}
use Rattle.object_format.proofs.Fields.{bind_ok, guard_ok, guard_held, ok_is}
use Rattle.work_products.specs.RecordReading.{counted_at}

-- the end of the file stays where it is
abbrev pub end_place : Rest → ℕ
end_place r = r.at + length r.bytes

end-after : (n : ℕ) (r : Rest) → n ≤ length r.bytes → end_place (after n r) ≡ end_place r
end-after n r h = omega (arith, length-drop n r.bytes)

end-block : (n : ℕ) (r : Rest) (x : List ℕ × Rest) → block_at n r ≡ Ok x → end_place x.1 ≡ end_place r
end-block n r x e =
    let g = guard_ok (ltb (length r.bytes) n) _ (take n r.bytes, after n r) x e in
    sym (ap (λ (p : List ℕ × Rest). end_place p.1) g.1) ∙ end-after n r (ltb-false _ _ g.0)

end-number : (w : Width) (r : Rest) (x : ℕ × Rest) → number_at w r ≡ Ok x → end_place x.1 ≡ end_place r
end-number w r x e =
    let g = guard_ok (ltb (length r.bytes) (byte_len w)) _ _ x e in
    sym (ap (λ (p : ℕ × Rest). end_place p.1) g.1) ∙ end-after (byte_len w) r (ltb-false _ _ g.0)

end-fixed : (text : List ℕ) (fault : What) (r s : Rest) → fixed_at text fault r ≡ Ok s → end_place s ≡ end_place r
end-fixed text fault r s e =
    elim (cases_Bool (ltb (length r.bytes) (length text))) [
      | inl short ↦ absurd (let bad = rw short at e in cc)
      | inr long ↦
          let read : cond (bytes_eq (take (length text) r.bytes) text) (Ok (after (length text) r)) (refused r.at fault) ≡ Ok s = rw long at e in
          let g = guard_held (bytes_eq (take (length text) r.bytes) text) _ (after (length text) r) s read in
          sym (ap end_place g.1) ∙ end-after (length text) r (ltb-false _ _ long)
    ]

known-rest : (at : ℕ) (version : Option Version) (r : Rest) (x : Version × Rest) → known at version r ≡ Ok x → x.1 ≡ r
known-rest at None r x e = absurd cc
known-rest at (Some version) r x e = sym (ap (λ (p : Version × Rest). p.1) (ok_is (version, r) x e))

pub end-opening : (magic : List ℕ) (r : Rest) (x : Version × Rest) → opening_at Two magic r ≡ Ok x → end_place x.1 ≡ end_place r
unfolding opening_at
end-opening magic r x e =
    let a = bind_ok (fixed_at magic what.Magic r) (λ body. number_at w16 body >>= λ number. known body.at (version_of Two number.0) number.1) x e in
    let b = bind_ok (number_at w16 a.0) (λ number. known a.0.at (version_of Two number.0) number.1) x a.2 in
    ap end_place (known-rest a.0.at (version_of Two b.0.0) b.0.1 x b.2) ∙ end-number w16 a.0 b.0 b.1 ∙ end-fixed magic what.Magic r a.0 a.1

pub end-counted : (r : Rest) (x : List ℕ × Rest) → counted_at r ≡ Ok x → end_place x.1 ≡ end_place r
unfolding counted_at
end-counted r x e =
    let a = bind_ok (number_at w32 r) (λ len. block_at len.0 len.1) x e in
    end-block a.0.0 a.0.1 x a.2 ∙ end-number w32 r a.0 a.1
