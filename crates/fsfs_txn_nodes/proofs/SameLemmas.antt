-- Node-revisions whose fields are the same are the same.
use Rattle.std.proofs.Common.{◌≡◌, ℕ, Bool, true, false, ◌&&◌, Option, Some, None, refl, sym, ap, subst, ◌∙◌, IsTrue, ◌↔◌}
use Rattle.std.specs.Prelude.{nat_eq, option_map}
use Rattle.std.specs.Option.{option_eq}
use Rattle.std.specs.Cmp.Lexicographic.{pointwise}
use Rattle.std.proofs.lemmas.Bool.{and_from, and_parts, false≢true}
use Rattle.fsfs_base.specs.Paths.{Path, same_path}
use Rattle.fsfs_base.proofs.PathLemmas.{same_path-is, same_path-refl, same_name-is, same_name-refl}
use Rattle.fsfs_noderev.specs.contracts.rep.ContentsPartialEq.TheImpl as contents_test
use Rattle.fsfs_noderev.specs.contracts.rep.UniquifierPartialEq.TheImpl as unique_test
use Rattle.fsfs_noderev.specs.declared.node_id.NodeId.{NodeId}
use Rattle.fsfs_noderev.specs.declared.node_rev.NodeRev.{NodeRev}
use Rattle.fsfs_noderev.specs.declared.rep.Uniquifier.{Uniquifier}
use Rattle.fsfs_noderev.specs.declared.rep.Rep.{Rep}
use Rattle.fsfs_noderev.specs.declared.rep.Contents.{Contents}
use Rattle.fsfs_noderev.specs.declared.rep.Contents.TheVariants as contents
use Rattle.fsfs_noderev.specs.Reps.{unique_value}
use Rattle.fsfs_noderev.proofs.Same.{rep_same}
use Rattle.fsfs_dag.specs.Same.{same_id}
use Rattle.fsfs_dag.proofs.IdLemmas.{equal, itself, id_true, id_self}

numbers : (a b : Option ℕ) → option_eq nat_eq a b ≡ true → a ≡ b
numbers None None h = refl
numbers None (Some b) h = absurd cc
numbers (Some a) None h = absurd cc
numbers (Some a) (Some b) h = ap (λ (n : ℕ). Some n) (equal a b h)

number_self : (a : Option ℕ) → option_eq nat_eq a a ≡ true
number_self None = refl
number_self (Some a) = itself a

-- the tests that are derived

abbrev unique_eq : Uniquifier → Uniquifier → Bool
unique_eq = unique_test.eq-value.it

abbrev contents_eq : Contents → Contents → Bool
contents_eq = contents_test.eq-value.it

abbrev same_unique : Uniquifier → Uniquifier → Bool
same_unique a b = pointwise nat_eq a.sha1.bytes b.sha1.bytes && ((nat_eq a.txn.base b.txn.base && nat_eq a.txn.number.number b.txn.number.number) && nat_eq a.number.number b.number.number)

unique_is : (a b : Uniquifier) → same_unique a b ≡ true → unique_value a ≡ unique_value b
unique_is a b h =
    let one = and_parts (pointwise nat_eq a.sha1.bytes b.sha1.bytes) ((nat_eq a.txn.base b.txn.base && nat_eq a.txn.number.number b.txn.number.number) && nat_eq a.number.number b.number.number) h in
    let two = and_parts (nat_eq a.txn.base b.txn.base && nat_eq a.txn.number.number b.txn.number.number) (nat_eq a.number.number b.number.number) one.1 in
    let txn = and_parts (nat_eq a.txn.base b.txn.base) (nat_eq a.txn.number.number b.txn.number.number) two.0 in
    let sha1 = same_name-is a.sha1.bytes b.sha1.bytes one.0 in
    let base = equal a.txn.base b.txn.base txn.0 in
    let name = equal a.txn.number.number b.txn.number.number txn.1 in
    let number = equal a.number.number b.number.number two.1 in
    λ i. record { sha1 = sha1 i; base = base i; txn = name i; number = number i }

unique_self : (a : Uniquifier) → same_unique a a ≡ true
unique_self a = and_from _ _ (same_name-refl a.sha1.bytes) (and_from _ _ (and_from _ _ (itself a.txn.base) (itself a.txn.number.number)) (itself a.number.number))

uniques : (a b : Option Uniquifier) → option_eq unique_eq a b ≡ true → option_map unique_value a ≡ option_map unique_value b
uniques None None h = refl
uniques None (Some b) h = absurd cc
uniques (Some a) None h = absurd cc
uniques (Some a) (Some b) h = ap Some (unique_is a b h)

uniques_self : (a : Option Uniquifier) → option_eq unique_eq a a ≡ true
uniques_self None = refl
uniques_self (Some a) = unique_self a

abbrev same_rep : Rep → Rep → Bool
same_rep a b = option_eq nat_eq a.rev b.rev && (nat_eq a.offset b.offset && (nat_eq a.length b.length && (nat_eq a.size b.size && (pointwise nat_eq a.md5.bytes b.md5.bytes && option_eq unique_eq a.unique b.unique))))

rep_is : (a b : Rep) → same_rep a b ≡ true → a ≡ b
rep_is a b h =
    let p1 = and_parts (option_eq nat_eq a.rev b.rev) _ h in
    let p2 = and_parts (nat_eq a.offset b.offset) _ p1.1 in
    let p3 = and_parts (nat_eq a.length b.length) _ p2.1 in
    let p4 = and_parts (nat_eq a.size b.size) _ p3.1 in
    let p5 = and_parts (pointwise nat_eq a.md5.bytes b.md5.bytes) (option_eq unique_eq a.unique b.unique) p4.1 in
    let rev = numbers a.rev b.rev p1.0 in
    let offset = equal a.offset b.offset p2.0 in
    let length = equal a.length b.length p3.0 in
    let size = equal a.size b.size p4.0 in
    let md5 = same_name-is a.md5.bytes b.md5.bytes p5.0 in
    let unique = uniques a.unique b.unique p5.1 in
    rep_same a b (λ i. record { rev = rev i; offset = offset i; length = length i; size = size i; md5 = md5 i; unique = unique i })

rep_self : (a : Rep) → same_rep a a ≡ true
rep_self a = and_from _ _ (number_self a.rev) (and_from _ _ (itself a.offset) (and_from _ _ (itself a.length) (and_from _ _ (itself a.size) (and_from _ _ (same_name-refl a.md5.bytes) (uniques_self a.unique)))))

contents_is : (a b : Option Contents) → option_eq contents_eq a b ≡ true → a ≡ b
contents_is None None h = refl
contents_is None (Some b) h = absurd cc
contents_is (Some a) None h = absurd cc
contents_is (Some contents.Own) (Some contents.Own) h = refl
contents_is (Some contents.Own) (Some (contents.At s)) h = absurd cc
contents_is (Some (contents.At r)) (Some contents.Own) h = absurd cc
contents_is (Some (contents.At r)) (Some (contents.At s)) h = ap (λ (x : Rep). Some (contents.At x)) (rep_is r s h)

contents_self : (a : Option Contents) → option_eq contents_eq a a ≡ true
contents_self None = refl
contents_self (Some contents.Own) = refl
contents_self (Some (contents.At r)) = rep_self r

-- a test that says just whether two values are the same
pub decided : {A : Type 0} (test : A → A → Bool) (a b : A) (result : Bool) → ((x y : A) → test x y ≡ true → x ≡ y) → ((x : A) → test x x ≡ true) → result ≡ test a b → IsTrue result ↔ (a ≡ b)
decided test a b result sound whole is =
    (λ h. sound a b (sym is ∙ h), λ e. is ∙ subst (λ x. test a x ≡ true) e (whole a))

pub contents_decided : (a b : Option Contents) (result : Bool) → result ≡ option_eq contents_eq a b → IsTrue result ↔ (a ≡ b)
contents_decided a b result is = decided (option_eq contents_eq) a b result contents_is contents_self is

pub path_decided : (a b : Path) (result : Bool) → result ≡ same_path a b → IsTrue result ↔ (a ≡ b)
path_decided a b result is = decided same_path a b result same_path-is same_path-refl is

pub id_decided : (a b : NodeId) (result : Bool) → result ≡ same_id a b → IsTrue result ↔ (a ≡ b)
id_decided a b result is = decided same_id a b result id_true id_self is

pub all_decided : (a b : NodeRev) (id kind predecessor counts text props path source root flags : Bool) → IsTrue id ↔ (a.id ≡ b.id) → IsTrue kind ↔ (a.kind ≡ b.kind) → IsTrue predecessor ↔ (a.predecessor ≡ b.predecessor)
    → IsTrue counts ↔ (a.count ≡ b.count × a.mergeinfo_count ≡ b.mergeinfo_count) → IsTrue text ↔ (a.text ≡ b.text) → IsTrue props ↔ (a.props ≡ b.props) → IsTrue path ↔ (a.created_path ≡ b.created_path)
    → IsTrue source ↔ (a.copy_from ≡ b.copy_from) → IsTrue root ↔ (a.copy_root ≡ b.copy_root) → IsTrue flags ↔ (a.is_fresh_txn_root ≡ b.is_fresh_txn_root × a.has_mergeinfo ≡ b.has_mergeinfo)
    → IsTrue (id && kind && predecessor && counts && text && props && path && source && root && flags) ↔ (a ≡ b)
all_decided a b id kind predecessor counts text props path source root flags by_id by_kind by_predecessor by_counts by_text by_props by_path by_source by_root by_flags = (
  λ h.
      let p9 = and_parts (id && kind && predecessor && counts && text && props && path && source && root) flags h in
      let p8 = and_parts (id && kind && predecessor && counts && text && props && path && source) root p9.0 in
      let p7 = and_parts (id && kind && predecessor && counts && text && props && path) source p8.0 in
      let p6 = and_parts (id && kind && predecessor && counts && text && props) path p7.0 in
      let p5 = and_parts (id && kind && predecessor && counts && text) props p6.0 in
      let p4 = and_parts (id && kind && predecessor && counts) text p5.0 in
      let p3 = and_parts (id && kind && predecessor) counts p4.0 in
      let p2 = and_parts (id && kind) predecessor p3.0 in
      let p1 = and_parts id kind p2.0 in
      let id_is = by_id.0 p1.0 in
      let kind_is = by_kind.0 p1.1 in
      let predecessor_is = by_predecessor.0 p2.1 in
      let counts_are = by_counts.0 p3.1 in
      let text_is = by_text.0 p4.1 in
      let props_are = by_props.0 p5.1 in
      let path_is = by_path.0 p6.1 in
      let source_is = by_source.0 p7.1 in
      let root_is = by_root.0 p8.1 in
      let flags_are = by_flags.0 p9.1 in
      λ i. record {
        id = id_is i;
        kind = kind_is i;
        predecessor = predecessor_is i;
        count = counts_are.0 i;
        text = text_is i;
        props = props_are i;
        created_path = path_is i;
        copy_from = source_is i;
        copy_root = root_is i;
        is_fresh_txn_root = flags_are.0 i;
        mergeinfo_count = counts_are.1 i;
        has_mergeinfo = flags_are.1 i;
      },
  λ e.
      and_from (id && kind && predecessor && counts && text && props && path && source && root) flags
      (and_from (id && kind && predecessor && counts && text && props && path && source) root
      (and_from (id && kind && predecessor && counts && text && props && path) source
      (and_from (id && kind && predecessor && counts && text && props) path
      (and_from (id && kind && predecessor && counts && text) props
      (and_from (id && kind && predecessor && counts) text
      (and_from (id && kind && predecessor) counts
      (and_from (id && kind) predecessor
      (and_from id kind (by_id.1 (ap (λ (v : NodeRev). v.id) e)) (by_kind.1 (ap (λ (v : NodeRev). v.kind) e)))
      (by_predecessor.1 (ap (λ (v : NodeRev). v.predecessor) e)))
      (by_counts.1 (ap (λ (v : NodeRev). v.count) e, ap (λ (v : NodeRev). v.mergeinfo_count) e)))
      (by_text.1 (ap (λ (v : NodeRev). v.text) e)))
      (by_props.1 (ap (λ (v : NodeRev). v.props) e)))
      (by_path.1 (ap (λ (v : NodeRev). v.created_path) e)))
      (by_source.1 (ap (λ (v : NodeRev). v.copy_from) e)))
      (by_root.1 (ap (λ (v : NodeRev). v.copy_root) e)))
      (by_flags.1 (ap (λ (v : NodeRev). v.is_fresh_txn_root) e, ap (λ (v : NodeRev). v.has_mergeinfo) e)),
)

pub unlike : (a b : NodeRev) (result : Bool) → IsTrue result ↔ (a ≡ b) → result ≡ false → b ≡ a → ⊥
unlike a b result both is_not e = false≢true (sym is_not ∙ both.1 (sym e))
