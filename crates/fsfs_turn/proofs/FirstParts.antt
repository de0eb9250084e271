-- The rules of ids up to a revision hold up to each one before it.
use Rattle.std.proofs.Common.{◌≤◌, ℕ, arith}
use Rattle.fsfs_base.specs.Paths.{PathName, Path}
use Rattle.fsfs_revision.specs.Told.{RevisionBytes}
use Rattle.fsfs_noderev.specs.declared.node_rev.NodeRev.{NodeRev}
use Rattle.fsfs_revision.specs.Shows.IdRules.{IdRule, IsOf, IsChild, CopyPartFrom, Directory, Before, Drawn}

module _ (look : RevisionBytes) (low top : ℕ) (le : low ≤ top) (w : IdRule look top) where
  up : (v : NodeRev) → IsOf look low v → IsOf look top v
  up v of = (of.0, of.1, (let x = of.2 in omega (arith, x, le)), of.3)

  child : (r : ℕ) (p : Path) (name : PathName) (dir v : NodeRev) → IsChild look low r p name dir v → IsChild look top r p name dir v
  child r p name dir v c = record { up_to = (let x = c.up_to in omega (arith, x, le)); above = c.above; there = c.there }

  part : (dir v : NodeRev) → CopyPartFrom look top dir v → CopyPartFrom look low dir v
  part dir v (Directory e) = Directory e
  part dir v (Before u b e) = Before u b e
  part dir v (Drawn d) = Drawn (record { not_first = d.not_first; suffix = d.suffix; no_copy = λ u from of. d.no_copy u from (up u of) })

  pub ids_lower : IdRule look low
  ids_lower = record {
    node = λ v u of. w.node v u (up v of);
    kind = λ v u of. w.kind v u (up v of);
    count = λ v u of. w.count v u (up v of);
    root_id = λ r v l. w.root_id r v (omega (arith, l, le));
    root_copy = λ r v l. w.root_copy r v (omega (arith, l, le));
    root_next = λ r v u l. w.root_next r v u (omega (arith, l, le));
    root_root = λ r v u l. w.root_root r v u (omega (arith, l, le));
    first = w.first;
    alone = w.alone;
    begins_once = λ v u a b. w.begins_once v u (up v a) (up u b);
    begins_in = λ v of. w.begins_in v (up v of);
    copy_there = λ v from of. w.copy_there v from (up v of);
    copy_once = λ v from p of. w.copy_once v from p (up v of);
    copy_root = λ v from of. w.copy_root v from (up v of);
    copy_part = λ v from of. w.copy_part v from (up v of);
    copy_own = λ v u from other a b. w.copy_own v u from other (up v a) (up u b);
    copy_source = λ v from of. w.copy_source v from (up v of);
    root_of_new = λ r p name dir v c. w.root_of_new r p name dir v (child r p name dir v c);
    root_of_next = λ r p name dir v u c. w.root_of_next r p name dir v u (child r p name dir v c);
    copy_part_of = λ r p name dir v c own none. part dir v (w.copy_part_of r p name dir v (child r p name dir v c) own none);
    older = λ r p name dir v c. w.older r p name dir v (child r p name dir v c);
    goes_on = λ r p name dir v x c. w.goes_on r p name dir v x (child r p name dir v c);
    props = λ v u of. w.props v u (up v of);
  }
