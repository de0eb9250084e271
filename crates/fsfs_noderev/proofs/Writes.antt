-- What is written is a node-revision's text.
use Rattle.std.proofs.Common.{◌≡◌, ℕ, Bool, true, false, cond, eqb, List, [], ◌∷◌, ◌++◌, map, Option, Some, None, refl, sym, ap, subst, ◌∙◌, append_assoc}
use Rattle.std.specs.Prelude.{codes, is_some}
use Rattle.std.specs.List.{flat_map}
use Rattle.std.proofs.lemmas.List.{append-nil}
use Rattle.fsfs_base.specs.Grammar.Relations.{Appends}
use Rattle.fsfs_base.specs.Grammar.Cuts.{Lacks}
use Rattle.fsfs_noderev.specs.Ids.{IsNumber64}
use Rattle.fsfs_noderev.specs.Lines.{IsPair, line}
use Rattle.fsfs_noderev.specs.Fields.{field_named, IsIdText, IsKindText, AreContentsText, IsPathText, IsSourceText, IsRootText, Puts, nothing}
use Rattle.fsfs_noderev.specs.NodeRevs.{Takes, IsNodeRev}
use Rattle.fsfs_noderev.specs.Writing.{IsLineOf, IsOptional, IsFlag, if_there, IsWritten}
use Rattle.fsfs_noderev.specs.declared.fields.Fields.{Fields}
use Rattle.fsfs_noderev.specs.declared.node_id.NodeId.{NodeId}
use Rattle.fsfs_noderev.specs.declared.rep.Contents.{Contents}
use Rattle.fsfs_noderev.specs.declared.node_rev.CopySource.{CopySource}
use Rattle.fsfs_noderev.specs.declared.node_rev.CopyRoot.{CopyRoot}
use Rattle.fsfs_noderev.specs.declared.node_rev.NodeRev.{NodeRev}
use Rattle.fsfs_noderev.proofs.OneLine.{OneLine, number_line, id_line, kind_line, contents_line, path_line, source_line, root_line}

abbrev Pair : Type 0
Pair = List ℕ × List ℕ

-- what was written are lines, taken one after another
pub record Lines (a b : List ℕ) (s t : Fields) (names : List (List ℕ)) : Type 0 where
  pub lines : List Pair
  pub taken : Takes s lines t
  pub parts : b ≡ a ++ flat_map line lines
  pub names_are : map (λ l. l.0) lines ≡ names

takes_append : (ls ms : List Pair) (s t u : Fields) → Takes s ls t → Takes t ms u → Takes s (ls ++ ms) u
takes_append [] ms s t u v w = subst (λ (f : Fields). Takes f ms u) v w
takes_append (l ∷ ls) ms s t u v w = (v.0, v.1, v.2, takes_append ls ms v.1 t u v.3 w)

flat_append : (ls ms : List Pair) → flat_map line (ls ++ ms) ≡ flat_map line ls ++ flat_map line ms
flat_append [] ms = refl
flat_append (l ∷ ls) ms = ap (λ (t : List ℕ). line l ++ t) (flat_append ls ms) ∙ sym (append_assoc (line l) (flat_map line ls) (flat_map line ms))

names_append : (ls ms : List Pair) → map (λ l. l.0) (ls ++ ms) ≡ map (λ l. l.0) ls ++ map (λ l. l.0) ms
names_append [] ms = refl
names_append (l ∷ ls) ms = ap (λ (t : List (List ℕ)). l.0 ∷ t) (names_append ls ms)

lines_then : {a b c : List ℕ} {s t u : Fields} {ns ms : List (List ℕ)} → Lines a b s t ns → Lines b c t u ms → Lines a c s u (ns ++ ms)
lines_then {a} {b} {c} {s} {t} {u} {ns} {ms} v w = record {
  lines = v.lines ++ w.lines;
  taken = takes_append v.lines w.lines s t u v.taken w.taken;
  parts = w.parts ∙ ap (λ (x : List ℕ). x ++ flat_map line w.lines) v.parts ∙ append_assoc a (flat_map line v.lines) (flat_map line w.lines) ∙ ap (λ (x : List ℕ). a ++ x) (sym (flat_append v.lines w.lines));
  names_are = names_append v.lines w.lines ∙ (λ i. v.names_are i ++ w.names_are i);
}

-- ---- one line

-- neither a colon nor an end of a line
abbrev clean : List ℕ → Bool
clean [] = true
clean (b ∷ bs) = cond (eqb b 58) false (cond (eqb b 10) false (clean bs))

abbrev good_name : List ℕ → Bool
good_name [] = false
good_name (b ∷ bs) = clean (b ∷ bs)

clean_lacks : (name : List ℕ) → clean name ≡ true → Lacks 58 name × Lacks 10 name
clean_lacks [] e = (tt, tt)
clean_lacks (b ∷ bs) e = go (clean_lacks bs) (eqb b 58) refl (eqb b 10) refl e
  where
    go : (clean bs ≡ true → Lacks 58 bs × Lacks 10 bs) → (t : Bool) → eqb b 58 ≡ t → (u : Bool) → eqb b 10 ≡ u → cond t false (cond u false (clean bs)) ≡ true → Lacks 58 (b ∷ bs) × Lacks 10 (b ∷ bs)
    go more true i u j e = absurd cc
    go more false i true j e = absurd cc
    go more false i false j e = let w = more e in ((i, w.0), (j, w.1))

pair_of : (name value : List ℕ) → good_name name ≡ true → Lacks 10 value → IsPair (name, value)
pair_of [] value e lacks = absurd cc
pair_of (b ∷ bs) value e lacks = let w = clean_lacks (b ∷ bs) e in record { filled = λ none. clash none; colon = w.0; name = w.1; value = lacks }
  where
    clash : (b ∷ bs) ≡ [] → ⊥
    clash none = cc

one : {X : Type 0} {a b : List ℕ} (name : List ℕ) (G : List ℕ → X → Type 0) (s t : Fields) (x : X) → good_name name ≡ true → OneLine G → ((v : List ℕ) → G v x → Puts (field_named name) v s t) → Appends (IsLineOf name G) a b x → Lines a b s t (name ∷ [])
one {X} {a} {b} name G s t x good lacks puts w =
    let value = w.text_is.0 in
    record {
      lines = (name, value) ∷ [];
      taken = (pair_of name value good (lacks value x w.text_is.1), t, puts value w.text_is.1, refl);
      parts = w.parts ∙ ap (λ (y : List ℕ). a ++ y) (w.text_is.2 ∙ sym (append-nil (line (name, value))));
      names_are = refl;
    }

optional : {X : Type 0} {a b : List ℕ} (name : List ℕ) (G : List ℕ → X → Type 0) (s : Fields) (set : Option X → Fields) (o : Option X) → good_name name ≡ true → OneLine G → set None ≡ s → ((v : List ℕ) (x : X) → G v x → Puts (field_named name) v s (set (Some x)))
    → Appends (IsOptional name G) a b o → Lines a b s (set o) (if_there (is_some o) name)
optional {X} {a} {b} name G s set None good lacks same puts w = record { lines = []; taken = same; parts = w.parts ∙ ap (λ (y : List ℕ). a ++ y) w.text_is; names_are = refl }
optional {X} {a} {b} name G s set (Some x) good lacks same puts w = one name G s (set (Some x)) x good lacks (λ v g. puts v x g) (record { text = w.text; text_is = w.text_is; parts = w.parts })

flag : {a b : List ℕ} (name : List ℕ) (s : Fields) (set : Bool → Fields) (f : Bool) → good_name name ≡ true → set false ≡ s → Puts (field_named name) (codes "y") s (set true) → Appends (IsFlag name) a b f → Lines a b s (set f) (if_there f name)
flag {a} {b} name s set false good same puts w = record { lines = []; taken = same; parts = w.parts ∙ ap (λ (y : List ℕ). a ++ y) w.text_is; names_are = refl }
flag {a} {b} name s set true good same puts w = record {
  lines = (name, codes "y") ∷ [];
  taken = (pair_of name (codes "y") good (refl, tt), set true, puts, refl);
  parts = w.parts ∙ ap (λ (y : List ℕ). a ++ y) (w.text_is ∙ sym (append-nil (line (name, codes "y"))));
  names_are = refl;
}

-- ---- the fields line by line

abbrev flag_of : Bool → Option (Unit {0})
flag_of false = None
flag_of true = Some tt

flag_some : (b : Bool) → b ≡ is_some (flag_of b)
flag_some false = refl
flag_some true = refl

module _ (n : NodeRev) where
  abbrev f1 : Fields
  f1 = record nothing { id = Some n.id }

  abbrev f2 : Fields
  f2 = record f1 { kind = Some n.kind }

  abbrev f3 : Option NodeId → Fields
  f3 o = record f2 { predecessor = o }

  abbrev f4 : Fields
  f4 = record (f3 n.predecessor) { count = Some n.count }

  abbrev f5 : Option Contents → Fields
  f5 o = record f4 { text = o }

  abbrev f6 : Option Contents → Fields
  f6 o = record (f5 n.text) { props = o }

  abbrev f7 : Fields
  f7 = record (f6 n.props) { created_path = Some n.created_path }

  abbrev f8 : Option CopySource → Fields
  f8 o = record f7 { copy_from = o }

  abbrev f9 : Option CopyRoot → Fields
  f9 o = record (f8 n.copy_from) { copy_root = o }

  abbrev f10 : Bool → Fields
  f10 b = record (f9 n.copy_root) { fresh_txn_root = flag_of b }

  abbrev f11 : Option ℕ → Fields
  f11 o = record (f10 n.is_fresh_txn_root) { mergeinfo_count = o }

  abbrev f12 : Bool → Fields
  f12 b = record (f11 n.mergeinfo_count) { mergeinfo_here = flag_of b }

  -- the lines one after another
  pub written : {a0 a1 a2 a3 a4 a5 a6 a7 a8 a9 a10 a11 a12 out : List ℕ} → a0 ≡ []
      → Appends (IsLineOf (codes "id") IsIdText) a0 a1 n.id
      → Appends (IsLineOf (codes "type") IsKindText) a1 a2 n.kind
      → Appends (IsOptional (codes "pred") IsIdText) a2 a3 n.predecessor
      → Appends (IsLineOf (codes "count") IsNumber64) a3 a4 n.count
      → Appends (IsOptional (codes "text") AreContentsText) a4 a5 n.text
      → Appends (IsOptional (codes "props") AreContentsText) a5 a6 n.props
      → Appends (IsLineOf (codes "cpath") IsPathText) a6 a7 n.created_path
      → Appends (IsOptional (codes "copyfrom") IsSourceText) a7 a8 n.copy_from
      → Appends (IsOptional (codes "copyroot") IsRootText) a8 a9 n.copy_root
      → Appends (IsFlag (codes "is-fresh-txn-root")) a9 a10 n.is_fresh_txn_root
      → Appends (IsOptional (codes "minfo-cnt") IsNumber64) a10 a11 n.mergeinfo_count
      → Appends (IsFlag (codes "minfo-here")) a11 a12 n.has_mergeinfo
      → out ≡ a12 ++ 10 ∷ [] → IsWritten out n
  written {a0} {a1} {a2} {a3} {a4} {a5} {a6} {a7} {a8} {a9} {a10} {a11} {a12} {out} empty l1 l2 l3 l4 l5 l6 l7 l8 l9 l10 l11 l12 last =
      let k1 : Lines a0 a1 nothing f1 (codes "id" ∷ []) = one (codes "id") IsIdText nothing f1 n.id refl id_line (λ v g. (refl, n.id, g, refl)) l1 in
      let k2 : Lines a1 a2 f1 f2 (codes "type" ∷ []) = one (codes "type") IsKindText f1 f2 n.kind refl kind_line (λ v g. (refl, n.kind, g, refl)) l2 in
      let k3 : Lines a2 a3 f2 (f3 n.predecessor) (if_there (is_some n.predecessor) (codes "pred")) = optional (codes "pred") IsIdText f2 f3 n.predecessor refl id_line refl (λ v x g. (refl, x, g, refl)) l3 in
      let k4 : Lines a3 a4 (f3 n.predecessor) f4 (codes "count" ∷ []) = one (codes "count") IsNumber64 (f3 n.predecessor) f4 n.count refl number_line (λ v g. (refl, n.count, g, refl)) l4 in
      let k5 : Lines a4 a5 f4 (f5 n.text) (if_there (is_some n.text) (codes "text")) = optional (codes "text") AreContentsText f4 f5 n.text refl contents_line refl (λ v x g. (refl, x, g, refl)) l5 in
      let k6 : Lines a5 a6 (f5 n.text) (f6 n.props) (if_there (is_some n.props) (codes "props")) = optional (codes "props") AreContentsText (f5 n.text) f6 n.props refl contents_line refl (λ v x g. (refl, x, g, refl)) l6 in
      let k7 : Lines a6 a7 (f6 n.props) f7 (codes "cpath" ∷ []) = one (codes "cpath") IsPathText (f6 n.props) f7 n.created_path refl path_line (λ v g. (refl, n.created_path, g, refl)) l7 in
      let k8 : Lines a7 a8 f7 (f8 n.copy_from) (if_there (is_some n.copy_from) (codes "copyfrom")) = optional (codes "copyfrom") IsSourceText f7 f8 n.copy_from refl source_line refl (λ v x g. (refl, x, g, refl)) l8 in
      let k9 : Lines a8 a9 (f8 n.copy_from) (f9 n.copy_root) (if_there (is_some n.copy_root) (codes "copyroot")) = optional (codes "copyroot") IsRootText (f8 n.copy_from) f9 n.copy_root refl root_line refl (λ v x g. (refl, x, g, refl)) l9 in
      let k10 : Lines a9 a10 (f9 n.copy_root) (f10 n.is_fresh_txn_root) (if_there n.is_fresh_txn_root (codes "is-fresh-txn-root")) = flag (codes "is-fresh-txn-root") (f9 n.copy_root) f10 n.is_fresh_txn_root refl refl (refl, tt, refl, refl) l10 in
      let k11 : Lines a10 a11 (f10 n.is_fresh_txn_root) (f11 n.mergeinfo_count) (if_there (is_some n.mergeinfo_count) (codes "minfo-cnt")) = optional (codes "minfo-cnt") IsNumber64 (f10 n.is_fresh_txn_root) f11 n.mergeinfo_count refl number_line refl (λ v x g. (refl, x, g, refl)) l11 in
      let k12 : Lines a11 a12 (f11 n.mergeinfo_count) (f12 n.has_mergeinfo) (if_there n.has_mergeinfo (codes "minfo-here")) = flag (codes "minfo-here") (f11 n.mergeinfo_count) f12 n.has_mergeinfo refl refl (refl, tt, refl, refl) l12 in
      let all = lines_then k1 (lines_then k2 (lines_then k3 (lines_then k4 (lines_then k5 (lines_then k6 (lines_then k7 (lines_then k8 (lines_then k9 (lines_then k10 (lines_then k11 k12)))))))))) in
      record {
        lines = all.lines;
        fields = f12 n.has_mergeinfo;
        taken = all.taken;
        means = record {
          id = refl;
          kind = refl;
          predecessor = refl;
          count = refl;
          text = refl;
          props = refl;
          created_path = refl;
          copy_from = refl;
          copy_root = refl;
          fresh_txn_root = flag_some n.is_fresh_txn_root;
          mergeinfo_count = refl;
          mergeinfo_here = flag_some n.has_mergeinfo;
        };
        names = all.names_are;
        parts = last ∙ ap (λ (t : List ℕ). t ++ 10 ∷ []) (all.parts ∙ ap (λ (t : List ℕ). t ++ flat_map line all.lines) empty);
      }

pub is_node_rev : (text : List ℕ) (n : NodeRev) → IsWritten text n → IsNodeRev text n
is_node_rev text n w = record { fields = w.fields; text_is = record { lines = w.lines; taken = w.taken; parts = w.parts }; means = w.means }
