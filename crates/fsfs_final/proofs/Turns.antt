-- Own node-revisions put one after another, all of a whole draft.
use Rattle.std.proofs.Common.{◌≡◌, ◌∙◌, ℕ, suc, List, [], ◌∷◌, ◌++◌, length, None, sym, subst}
use Rattle.fsfs_base.specs.Paths.{Path}
use Rattle.fsfs_base.specs.declared.fields.txn_name.TxnName.{TxnName}
use Rattle.fsfs_tree.specs.Nodes.{TreeFunction}
use Rattle.fsfs_model.specs.declared.flat.mark.Mark.{Mark}
use Rattle.fsfs_revision.specs.Told.{RevisionBytes}
use Rattle.fsfs_draft.specs.Own.{OwnNode}
use Rattle.fsfs_draft.specs.Drafts.{Kept, Folder}
use Rattle.fsfs_draft.specs.OwnSides.{NodesAt}
use Rattle.fsfs_final.specs.Laid.{Laid, IsLaid, nothing_laid}
use Rattle.fsfs_final.proofs.LaidLaw.{loop_laws}
use Rattle.fsfs_final.specs.Pieces.Naming.{FinalIds}
use Rattle.fsfs_final.specs.Order.Orders.{is_in}
use Rattle.fsfs_final.proofs.OrderLists.{differ}
use Rattle.fsfs_final.specs.Putting.{ArePut}
use Rattle.fsfs_final.specs.Laying.{IsCommittable, IsPut, AreLaid, PutsLay}
use Rattle.fsfs_final.proofs.Puts.{puts_on}

same_ids : (n : ℕ) (bytes : List ℕ) (laid : Laid) (ids now : FinalIds) (p : Path) (v : OwnNode) → now p ≡ ids p → IsPut n bytes laid ids p v → IsPut n bytes laid now p v
same_ids n bytes laid ids now p v e is = record {
  off = is.off;
  done = is.done;
  path = is.path;
  at = is.at;
  id_is = e ∙ is.id_is;
  place = is.place;
  final = is.final;
  text = is.text;
  list = is.list;
  set = is.set;
}

all_laid : (look : RevisionBytes) (trees : ℕ → TreeFunction) (top : ℕ) (nodes : ℕ → NodesAt) (txn : TxnName) (f : Folder) (tree : TreeFunction) (marks : List Mark) (is : IsCommittable look trees top nodes txn f tree marks)
    → (ks : List Kept) (old new : List ℕ) (laid : Laid) (ids now : FinalIds) → AreLaid (suc top) (f.proto ++ old) is.draft.shows.own ks laid ids → ArePut (suc top) (length f.proto) ks old ids new now
    → (later : Laid) × AreLaid (suc top) (f.proto ++ new) is.draft.shows.own [] later now
all_laid look trees top nodes txn f tree marks is [] old new laid ids now w put = (
  laid,
  record {
    is_laid = subst (λ (x : List ℕ). IsLaid (suc top) (f.proto ++ x) laid) (sym put.0) w.is_laid;
    order = tt;
    each = λ p v at out. same_ids (suc top) (f.proto ++ new) laid ids now p v (put.1 p) (subst (λ (x : List ℕ). IsPut (suc top) (f.proto ++ x) laid ids p v) (sym put.0) (w.each p v at out));
  },
)
all_laid look trees top nodes txn f tree marks is (k ∷ ks) old new laid ids now w put =
    let one = puts_on look trees top nodes txn f tree marks is k ks old put.0 laid ids put.1 w put.2 in
    all_laid look trees top nodes txn f tree marks is ks put.0 new one.0 put.1 now one.1 put.3

pub puts_lay : PutsLay
puts_lay look trees top nodes txn f tree marks is ks old new ids order put =
    all_laid look trees top nodes txn f tree marks is ks old new nothing_laid (λ p. None) ids (record {
      is_laid = loop_laws.begins (suc top) (f.proto ++ old);
      order = order.order;
      each = λ p v at out. absurd (differ (is_in ks p) (order.all p v at) out);
    }) put
