-- Values that are the same by their numbers are the same, and the other way round.
use Rattle.std.proofs.Common.{◌≡◌, ℕ, true, refl, ap, Option, Some, None}
use Rattle.std.specs.Prelude.{◌==◌, ◌&&◌, option_map}
use Rattle.std.specs.Str.{bytes_eq}
use Rattle.std.proofs.lemmas.Bool.{and_from, and_parts}
use Rattle.fsfs_base.proofs.PathLemmas.{same_name-is, same_name-refl}
use Rattle.fsfs_noderev.specs.declared.rep.Uniquifier.{Uniquifier}
use Rattle.fsfs_noderev.specs.declared.rep.Rep.{Rep}
use Rattle.fsfs_noderev.specs.declared.rep.Contents.{Contents}
use Rattle.fsfs_noderev.specs.declared.rep.Contents.TheVariants as contents
use Rattle.fsfs_noderev.specs.Reps.{unique_value}
use Rattle.fsfs_noderev.proofs.Same.{rep_same}
use Rattle.fsfs_dag.proofs.IdLemmas.{equal, itself}
use Rattle.fsfs_verify.specs.Same.{same_rev, same_unique, same_rep, same_contents}

-- ---- representations

revs : (a b : Option ℕ) → same_rev a b ≡ true → a ≡ b
revs None None h = refl
revs None (Some b) h = absurd cc
revs (Some a) None h = absurd cc
revs (Some a) (Some b) h = ap (λ (n : ℕ). Some n) (equal a b h)

rev_self : (a : Option ℕ) → same_rev a a ≡ true
rev_self None = refl
rev_self (Some a) = itself a

uniques : (a b : Option Uniquifier) → same_unique a b ≡ true → option_map unique_value a ≡ option_map unique_value b
uniques None None h = refl
uniques None (Some b) h = absurd cc
uniques (Some a) None h = absurd cc
uniques (Some a) (Some b) h =
    let two = and_parts (bytes_eq a.sha1.bytes b.sha1.bytes && (a.txn.base == b.txn.base && a.txn.number.number == b.txn.number.number)) (a.number.number == b.number.number) h in
    let one = and_parts (bytes_eq a.sha1.bytes b.sha1.bytes) (a.txn.base == b.txn.base && a.txn.number.number == b.txn.number.number) two.0 in
    let txn = and_parts (a.txn.base == b.txn.base) (a.txn.number.number == b.txn.number.number) one.1 in
    let sha1 = same_name-is a.sha1.bytes b.sha1.bytes one.0 in
    let base = equal a.txn.base b.txn.base txn.0 in
    let name = equal a.txn.number.number b.txn.number.number txn.1 in
    let number = equal a.number.number b.number.number two.1 in
    λ i. Some (record { sha1 = sha1 i; base = base i; txn = name i; number = number i })

unique_self : (a : Option Uniquifier) → same_unique a a ≡ true
unique_self None = refl
unique_self (Some a) = and_from _ _ (and_from _ _ (same_name-refl a.sha1.bytes) (and_from _ _ (itself a.txn.base) (itself a.txn.number.number))) (itself a.number.number)

reps : (a b : Rep) → same_rep a b ≡ true → a ≡ b
reps a b h =
    let p5 = and_parts (same_rev a.rev b.rev && a.offset == b.offset && a.length == b.length && a.size == b.size && bytes_eq a.md5.bytes b.md5.bytes) (same_unique a.unique b.unique) h in
    let p4 = and_parts (same_rev a.rev b.rev && a.offset == b.offset && a.length == b.length && a.size == b.size) (bytes_eq a.md5.bytes b.md5.bytes) p5.0 in
    let p3 = and_parts (same_rev a.rev b.rev && a.offset == b.offset && a.length == b.length) (a.size == b.size) p4.0 in
    let p2 = and_parts (same_rev a.rev b.rev && a.offset == b.offset) (a.length == b.length) p3.0 in
    let p1 = and_parts (same_rev a.rev b.rev) (a.offset == b.offset) p2.0 in
    let rev = revs a.rev b.rev p1.0 in
    let offset = equal a.offset b.offset p1.1 in
    let length = equal a.length b.length p2.1 in
    let size = equal a.size b.size p3.1 in
    let md5 = same_name-is a.md5.bytes b.md5.bytes p4.1 in
    let unique = uniques a.unique b.unique p5.1 in
    rep_same a b (λ i. record { rev = rev i; offset = offset i; length = length i; size = size i; md5 = md5 i; unique = unique i })

rep_self : (a : Rep) → same_rep a a ≡ true
rep_self a = and_from _ _ (and_from _ _ (and_from _ _ (and_from _ _ (and_from _ _ (rev_self a.rev) (itself a.offset)) (itself a.length)) (itself a.size)) (same_name-refl a.md5.bytes)) (unique_self a.unique)

pub contents_true : (a b : Option Contents) → same_contents a b ≡ true → a ≡ b
contents_true None None h = refl
contents_true None (Some b) h = absurd cc
contents_true (Some a) None h = absurd cc
contents_true (Some contents.Own) (Some contents.Own) h = refl
contents_true (Some contents.Own) (Some (contents.At b)) h = absurd cc
contents_true (Some (contents.At a)) (Some contents.Own) h = absurd cc
contents_true (Some (contents.At a)) (Some (contents.At b)) h = ap (λ (r : Rep). Some (contents.At r)) (reps a b h)

pub contents_self : (a : Option Contents) → same_contents a a ≡ true
contents_self None = refl
contents_self (Some contents.Own) = refl
contents_self (Some (contents.At a)) = rep_self a
