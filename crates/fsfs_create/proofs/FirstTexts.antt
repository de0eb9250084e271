-- The root of revision 0 has one text, and so has the trailer behind it.
use Rattle.std.proofs.Common.{◌≡◌, ◌≤◌, ℕ, List, [], ◌∷◌, ◌++◌, Some, Option, map, refl, sym, ap, subst, ◌∙◌, arith}
use Rattle.std.specs.Prelude.{codes, is_some, unwrap_or}
use Rattle.std.proofs.lemmas.Option.{same_Some}
use Rattle.std.specs.List.{flat_map}
use Rattle.hex.specs.Hex.{encode_lower, decode_pairs}
use Rattle.fsfs_base.specs.Grammar.Relations.{Appends}
use Rattle.fsfs_base.specs.Grammar.Numeral.{IsPlain, IsNumeral, numeral_at, plain_at}
use Rattle.fsfs_base.proofs.Numerals.{numeral_found}
use Rattle.fsfs_base.proofs.Unique.{numeral_same}
use Rattle.fsfs_base.specs.declared.kind.Kind.{Kind}
use Rattle.fsfs_base.specs.declared.kind.Kind.TheVariants.{Dir}
use Rattle.fsfs_base.specs.Paths.{Path}
use Rattle.fsfs_noderev.specs.Ids.{IsId, id_value}
use Rattle.fsfs_noderev.specs.Reps.{IsRep, digest_at}
use Rattle.fsfs_noderev.specs.Lines.{line}
use Rattle.fsfs_noderev.proofs.RepTexts.{digest_spells}
use Rattle.fsfs_noderev.specs.Fields.{IsIdText, IsKindText, AreContentsText, IsPathText, nothing}
use Rattle.fsfs_noderev.specs.NodeRevs.{Takes}
use Rattle.fsfs_noderev.specs.Writing.{IsWritten, names_of, if_there}
use Rattle.fsfs_noderev.specs.declared.fields.Fields.{Fields}
use Rattle.fsfs_noderev.specs.declared.node_id.NodeId.{NodeId}
use Rattle.fsfs_noderev.specs.declared.rep.Contents.{Contents}
use Rattle.fsfs_noderev.specs.declared.rep.Contents.TheVariants as contents
use Rattle.fsfs_noderev.specs.declared.node_rev.NodeRev.{NodeRev}
use Rattle.fsfs_revision.specs.Trailers.{IsTrailer}
use Rattle.fsfs_revision.proofs.FirstRevision.{root_text}
use Rattle.fsfs_create.specs.FirstRoot.{IsFirstRoot, first_id, first_rep, digest_of_end}

-- ---- numbers

spelled : (base limit : ℕ) (text known : List ℕ) (n : ℕ) → 1 ≤ base → base ≤ 36 → IsNumeral base text n → numeral_at base limit known ≡ Some n → text ≡ known
spelled base limit text known n low small w e = numeral_same base low small text known n w (numeral_found base limit known n e).0

zero_36 : (text : List ℕ) → IsPlain 36 170581728179578208255 text 0 → text ≡ codes "0"
unfolding numeral_at plain_at
zero_36 text w = spelled 36 170581728179578208255 text (codes "0") 0 (omega arith) (omega arith) w.0 refl

zero_10 : (text : List ℕ) → IsNumeral 10 text 0 → text ≡ codes "0"
unfolding numeral_at plain_at
zero_10 text w = spelled 10 200 text (codes "0") 0 (omega arith) (omega arith) w refl

four : (text : List ℕ) → IsNumeral 10 text 4 → text ≡ codes "4"
unfolding numeral_at plain_at
four text w = spelled 10 200 text (codes "4") 4 (omega arith) (omega arith) w refl

seventeen : (text : List ℕ) → IsNumeral 10 text 17 → text ≡ codes "17"
unfolding numeral_at plain_at
seventeen text w = spelled 10 200 text (codes "17") 17 (omega arith) (omega arith) w refl

hundred_seven : (text : List ℕ) → IsNumeral 10 text 107 → text ≡ codes "107"
unfolding numeral_at plain_at
hundred_seven text w = spelled 10 200 text (codes "107") 107 (omega arith) (omega arith) w refl

-- ---- values

id_text : (text : List ℕ) → IsId text (first_id 17) → text ≡ codes "0.0.r0/17"
id_text text (a, b, node, (c, d, copy, (rest, (e, f, rev, offset, rest_is), place_is), b_is), text_is) =
    text_is
    ∙ (λ i. zero_36 a node i ++ 46 ∷ b_is i)
    ∙ (λ i. codes "0." ++ (zero_36 c copy i ++ 46 ∷ place_is i))
    ∙ ap (λ (t : List ℕ). codes "0.0.r" ++ t) rest_is
    ∙ (λ i. codes "0.0.r" ++ (zero_10 e rev.0 i ++ 47 ∷ seventeen f offset.0 i))

digits_text : encode_lower digest_of_end ≡ codes "2d2977d1c96f487abe4a1e202dd03b4e"
unfolding digest_at decode_pairs
digits_text = sym ((digest_spells 16).found (codes "2d2977d1c96f487abe4a1e202dd03b4e") digest_of_end refl).text_is

rep_text : (text : List ℕ) → IsRep text (first_rep 4) → text ≡ codes "0 0 4 4 2d2977d1c96f487abe4a1e202dd03b4e"
rep_text text (a, b, rev, (c, d, offset, (e, f, size, (g, h, full, digest, f_is), d_is), b_is), text_is) =
    text_is
    ∙ (λ i. zero_10 a rev.0 i ++ 32 ∷ b_is i)
    ∙ (λ i. codes "0 " ++ (zero_10 c offset.0 i ++ 32 ∷ d_is i))
    ∙ (λ i. codes "0 0 " ++ (four e size.0 i ++ 32 ∷ f_is i))
    ∙ (λ i. codes "0 0 4 " ++ (four g full.0 i ++ 32 ∷ (digest.text_is ∙ digits_text) i))

-- ---- lines

-- a list of pairs whose keys are known
record Begun (lines : List (List ℕ × List ℕ)) (key : List ℕ) (keys : List (List ℕ)) : Type 0 where
  value : List ℕ
  rest : List (List ℕ × List ℕ)
  parts : lines ≡ (key, value) ∷ rest
  keys_are : map (λ (l : List ℕ × List ℕ). l.0) rest ≡ keys

begun : (lines : List (List ℕ × List ℕ)) (key : List ℕ) (keys : List (List ℕ)) → map (λ (l : List ℕ × List ℕ). l.0) lines ≡ key ∷ keys → Begun lines key keys
begun [] key keys e = absurd cc
begun ((k, v) ∷ rest) key keys e = let first : k ≡ key = cc in record { value = v; rest = rest; parts = (λ i. (first i, v) ∷ rest); keys_are = cc }

no_more : (lines : List (List ℕ × List ℕ)) → map (λ (l : List ℕ × List ℕ). l.0) lines ≡ [] → lines ≡ []
no_more [] e = refl
no_more (l ∷ lines) e = absurd cc

abbrev first_names : List (List ℕ)
first_names = codes "id" ∷ codes "type" ∷ codes "count" ∷ codes "text" ∷ codes "cpath" ∷ []

names_are : (node : NodeRev) → IsFirstRoot 4 17 node → names_of node ≡ first_names
names_are node w = λ i.
    (codes "id" ∷ []) ++ ((codes "type" ∷ []) ++ (if_there (is_some (w.predecessor i)) (codes "pred") ++ ((codes "count" ∷ []) ++
    (if_there (is_some (w.text i)) (codes "text") ++ (if_there (is_some (w.props i)) (codes "props") ++ ((codes "cpath" ∷ []) ++
    (if_there (is_some (w.copy_from i)) (codes "copyfrom") ++ (if_there (is_some (w.copy_root i)) (codes "copyroot") ++
    (if_there (w.is_fresh_txn_root i) (codes "is-fresh-txn-root") ++ (if_there (is_some (w.mergeinfo_count i)) (codes "minfo-cnt") ++ if_there (w.has_mergeinfo i) (codes "minfo-here")))))))))))

abbrev lines_of : (a b c d e : List ℕ) → List (List ℕ × List ℕ)
lines_of a b c d e = (codes "id", a) ∷ (codes "type", b) ∷ (codes "count", c) ∷ (codes "text", d) ∷ (codes "cpath", e) ∷ []

record Values (lines : List (List ℕ × List ℕ)) : Type 0 where
  id : List ℕ
  kind : List ℕ
  count : List ℕ
  text : List ℕ
  path : List ℕ
  parts : lines ≡ lines_of id kind count text path

values : (lines : List (List ℕ × List ℕ)) → map (λ (l : List ℕ × List ℕ). l.0) lines ≡ first_names → Values lines
values lines e =
    let a = begun lines _ _ e in
    let b = begun a.rest _ _ a.keys_are in
    let c = begun b.rest _ _ b.keys_are in
    let d = begun c.rest _ _ c.keys_are in
    let f = begun d.rest _ _ d.keys_are in
    record {
      id = a.value;
      kind = b.value;
      count = c.value;
      text = d.value;
      path = f.value;
      parts = a.parts ∙ ap (λ (ls : List (List ℕ × List ℕ)). (codes "id", a.value) ∷ ls)
          (b.parts ∙ ap (λ (ls : List (List ℕ × List ℕ)). (codes "type", b.value) ∷ ls)
          (c.parts ∙ ap (λ (ls : List (List ℕ × List ℕ)). (codes "count", c.value) ∷ ls)
          (d.parts ∙ ap (λ (ls : List (List ℕ × List ℕ)). (codes "text", d.value) ∷ ls)
          (f.parts ∙ ap (λ (ls : List (List ℕ × List ℕ)). (codes "cpath", f.value) ∷ ls) (no_more f.rest f.keys_are)))));
    }

-- what the five lines say
record Said (a b c d e : List ℕ) (fields : Fields) : Type 0 where
  id : NodeId
  id_is : IsIdText a id
  id_there : fields.id ≡ Some id
  kind : Kind
  kind_is : IsKindText b kind
  kind_there : fields.kind ≡ Some kind
  count : ℕ
  count_is : IsPlain 10 18446744073709551615 c count
  count_there : fields.count ≡ Some count
  text : Contents
  text_is : AreContentsText d text
  text_there : fields.text ≡ Some text
  path : Path
  path_is : IsPathText e path
  path_there : fields.created_path ≡ Some path

said : (a b c d e : List ℕ) (fields : Fields) → Takes nothing (lines_of a b c d e) fields → Said a b c d e fields
said a b c d e fields (_, s1, (_, id, id_is, e1), (_, s2, (_, kind, kind_is, e2), (_, s3, (_, count, count_is, e3), (_, s4, (_, text, text_is, e4), (_, s5, (_, path, path_is, e5), e6))))) =
    let f5 : fields ≡ record s4 { created_path = Some path } = e6 ∙ e5 in
    let f4 : s4 ≡ record s3 { text = Some text } = e4 in
    let f3 : s3 ≡ record s2 { count = Some count } = e3 in
    let f2 : s2 ≡ record s1 { kind = Some kind } = e2 in
    record {
      id = id;
      id_is = id_is;
      id_there = ap (λ (s : Fields). s.id) f5 ∙ ap (λ (s : Fields). s.id) f4 ∙ ap (λ (s : Fields). s.id) f3 ∙ ap (λ (s : Fields). s.id) f2 ∙ ap (λ (s : Fields). s.id) e1;
      kind = kind;
      kind_is = kind_is;
      kind_there = ap (λ (s : Fields). s.kind) f5 ∙ ap (λ (s : Fields). s.kind) f4 ∙ ap (λ (s : Fields). s.kind) f3 ∙ ap (λ (s : Fields). s.kind) f2;
      count = count;
      count_is = count_is;
      count_there = ap (λ (s : Fields). s.count) f5 ∙ ap (λ (s : Fields). s.count) f4 ∙ ap (λ (s : Fields). s.count) f3;
      text = text;
      text_is = text_is;
      text_there = ap (λ (s : Fields). s.text) f5 ∙ ap (λ (s : Fields). s.text) f4;
      path = path;
      path_is = path_is;
      path_there = ap (λ (s : Fields). s.created_path) f5;
    }

-- ---- the text of the root

pub first_root_text : (text : List ℕ) (node : NodeRev) → IsFirstRoot 4 17 node → IsWritten text node → text ≡ root_text
first_root_text text node first w =
    let v = values w.lines (w.names ∙ names_are node first) in
    let s = said v.id v.kind v.count v.text v.path w.fields (subst (λ (ls : List (List ℕ × List ℕ)). Takes nothing ls w.fields) v.parts w.taken) in
    let id : s.id ≡ node.id = same_Some s.id node.id (sym s.id_there ∙ w.means.id) in
    let id_is : v.id ≡ codes "0.0.r0/17" = id_text v.id (subst (IsId v.id) (ap id_value id ∙ first.id) s.id_is) in
    let kind : s.kind ≡ Dir = same_Some s.kind Dir (sym s.kind_there ∙ w.means.kind ∙ ap (λ (k : Kind). Some k) first.kind) in
    let kind_is : v.kind ≡ codes "dir" = subst (IsKindText v.kind) kind s.kind_is in
    let count : s.count ≡ 0 = ap (λ (o : Option ℕ). unwrap_or o 0) (sym s.count_there) ∙ sym w.means.count ∙ first.count in
    let count_is : v.count ≡ codes "0" = zero_10 v.count (subst (IsNumeral 10 v.count) count s.count_is.0) in
    let text_same : s.text ≡ contents.At first.rep = same_Some s.text (contents.At first.rep) (sym s.text_there ∙ sym w.means.text ∙ first.text) in
    let text_is : v.text ≡ codes "0 0 4 4 2d2977d1c96f487abe4a1e202dd03b4e" = rep_text v.text (subst (IsRep v.text) first.rep_is (subst (AreContentsText v.text) text_same s.text_is)) in
    let path : s.path ≡ [] = same_Some s.path [] (sym s.path_there ∙ w.means.created_path ∙ ap (λ (p : Path). Some p) first.created_path) in
    let path_is : v.path ≡ codes "/" = sym (subst (IsPathText v.path) path s.path_is).text_is in
    w.parts ∙ ap (λ (ls : List (List ℕ × List ℕ)). flat_map line ls ++ 10 ∷ []) v.parts
    ∙ (λ i. flat_map line (lines_of (id_is i) (kind_is i) (count_is i) (text_is i) (path_is i)) ++ 10 ∷ [])

-- ---- the trailer

pub first_trailer_text : (old new : List ℕ) → Appends IsTrailer old new (17, 107) → new ≡ old ++ codes "\n17 107\n"
first_trailer_text old new w =
    let t = w.text_is in
    let u = t.second_is in
    let offsets : (u.between ≡ 17) × (u.second_is.inner ≡ 107) = (let e = u.second_is.value_is in (ap (λ (p : ℕ × ℕ). p.0) (sym e), ap (λ (p : ℕ × ℕ). p.1) (sym e))) in
    let root : u.first ≡ codes "17 " = u.first_is.parts ∙ ap (λ (d : List ℕ). d ++ 32 ∷ []) (seventeen u.first_is.digits (subst (IsNumeral 10 u.first_is.digits) offsets.0 u.first_is.numeral)) in
    let last = u.second_is.inner_is in
    let changes : u.second ≡ codes "107\n" = last.parts ∙ ap (λ (d : List ℕ). d ++ 10 ∷ []) (hundred_seven last.digits (subst (IsNumeral 10 last.digits) offsets.1 last.numeral)) in
    w.parts ∙ ap (λ (t : List ℕ). old ++ t) (t.parts ∙ (λ i. t.first_is i ++ (u.parts ∙ (λ j. root j ++ changes j)) i))
