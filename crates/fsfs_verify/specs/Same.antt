-- Whether two values stand at one place, by their numbers.
use Rattle.std.specs.Prelude.{ℕ, Bool, true, false, ◌==◌, ◌&&◌, Option, Some, None}
use Rattle.std.specs.Str.{bytes_eq}
use Rattle.fsfs_noderev.specs.declared.rep.Uniquifier.{Uniquifier}
use Rattle.fsfs_noderev.specs.declared.rep.Rep.{Rep}
use Rattle.fsfs_noderev.specs.declared.rep.Contents.{Contents}
use Rattle.fsfs_noderev.specs.declared.rep.Contents.TheVariants as contents

abbrev pub same_rev : Option ℕ → Option ℕ → Bool
same_rev None None = true
same_rev None (Some b) = false
same_rev (Some a) None = false
same_rev (Some a) (Some b) = a == b

abbrev pub same_unique : Option Uniquifier → Option Uniquifier → Bool
same_unique None None = true
same_unique None (Some b) = false
same_unique (Some a) None = false
same_unique (Some a) (Some b) = bytes_eq a.sha1.bytes b.sha1.bytes && (a.txn.base == b.txn.base && a.txn.number.number == b.txn.number.number) && a.number.number == b.number.number

abbrev pub same_rep : Rep → Rep → Bool
same_rep a b = same_rev a.rev b.rev && a.offset == b.offset && a.length == b.length && a.size == b.size && bytes_eq a.md5.bytes b.md5.bytes && same_unique a.unique b.unique

abbrev pub same_contents : Option Contents → Option Contents → Bool
same_contents None None = true
same_contents None (Some b) = false
same_contents (Some a) None = false
same_contents (Some contents.Own) (Some contents.Own) = true
same_contents (Some contents.Own) (Some (contents.At b)) = false
same_contents (Some (contents.At a)) (Some contents.Own) = false
same_contents (Some (contents.At a)) (Some (contents.At b)) = same_rep a b
