-- Why there is no text.
use Rattle.std.proofs.Common.{◌≡◌, ◌∙◌, ℕ, true, List, [], ◌∷◌, Option, refl, ap, inl, inr}
use Rattle.std.specs.Prelude.{is_some, Err}
use Rattle.std.specs.List.{AllByRecursion}
use Rattle.std.proofs.lemmas.Bool.{and_from}
use Rattle.std.proofs.lemmas.List.Elements.{All-from_recursion, All-contains}
use Rattle.fsfs_base.specs.declared.kind.Kind.{Kind}
use Rattle.fsfs_model.specs.Flat.Folding.{change_of}
use Rattle.fsfs_model.specs.declared.flat.mark.Mark.{Mark}
use Rattle.fsfs_model.specs.declared.flat.mark.What.{What}
use Rattle.fsfs_model.specs.declared.flat.mark.What.TheVariants as whats
use Rattle.fsfs_noderev.specs.Changes.Words.{flags_fit}
use Rattle.fsfs_noderev.specs.declared.changes.item.ChangeItem.{ChangeItem}
use Rattle.fsfs_noderev.specs.Limits.{IfPast, is_told}
use Rattle.fsfs_noderev.specs.declared.limits.limit.PathLimit.{PathLimit}
use Rattle.fsfs_noderev.specs.declared.limits.limit.LimitError.{LimitError}
use Rattle.fsfs_noderev.specs.declared.limits.limit.LimitError.TheVariants as limits
use Rattle.fsfs_draft.specs.Drafts.{Kept, Folder, IsItemOf, AreItemsOf, action_of}
use Rattle.fsfs_final.specs.Order.Orders.{AreHeld}
use Rattle.fsfs_final.specs.declared.order.error.OrderError.{OrderError}
use Rattle.fsfs_final.specs.declared.order.error.OrderError.TheVariants as orders
use Rattle.fsfs_final.proofs.OrderLists.{differ}
use Rattle.fsfs_final.specs.Putting.{IsOnePast}
use Rattle.fsfs_commit.specs.FinalRev.Items.{IsOneUntold}
use Rattle.fsfs_commit.specs.FinalRev.Texts.{IsWrittenText, IsRefused, HasPathPast, OfNode, IfPastLimit, IfSink, IfUnwritten, of_order, of_limit}
use Rattle.fsfs_commit.specs.declared.final_rev.error.FinalError.{FinalError}
use Rattle.fsfs_commit.specs.declared.final_rev.error.FinalError.TheVariants as errors

pub order_refused : (Past : PathLimit → Type 0) (e : OrderError) → IsRefused (Unit {0}) Past (of_order e)
order_refused Past orders.OutOfMemory = tt
order_refused Past orders.Lacking = tt

pub limit_refused : (Lacks : Type 0) (P Past : PathLimit → Type 0) → ((limit : PathLimit) → P limit → Past limit) → (e : LimitError) → IfPast P e → IsRefused Lacks Past (of_limit e)
limit_refused Lacks P Past more limits.OutOfMemory h = tt
limit_refused Lacks P Past more (limits.Past limit) h = more limit h

pub refused_more : (Lacks Lacking : Type 0) (P Past : PathLimit → Type 0) → (Lacks → Lacking) → ((limit : PathLimit) → P limit → Past limit) → (e : FinalError) → IsRefused Lacks P e → IsRefused Lacking Past e
refused_more Lacks Lacking P Past lacks more errors.OutOfMemory h = tt
refused_more Lacks Lacking P Past lacks more errors.SinkFault h = absurd h
refused_more Lacks Lacking P Past lacks more errors.Lacking h = lacks h
refused_more Lacks Lacking P Past lacks more (errors.PastLimit limit) h = more limit h

pub only_past : (Past : PathLimit → Type 0) (e : FinalError) → IsRefused (Unit {0}) Past e → IfPastLimit Past e
only_past Past errors.OutOfMemory h = tt
only_past Past errors.SinkFault h = tt
only_past Past errors.Lacking h = tt
only_past Past (errors.PastLimit limit) h = h

pub sink_never : (Past : PathLimit → Type 0) (e : FinalError) (P : Type 0) → IsRefused (Unit {0}) Past e → IfSink e P
sink_never Past errors.OutOfMemory P h = tt
sink_never Past errors.SinkFault P h = absurd h
sink_never Past errors.Lacking P h = tt
sink_never Past (errors.PastLimit limit) P h = tt

pub unwritten_still : (e : FinalError) (P : Type 0) → P → IfUnwritten e P
unwritten_still errors.OutOfMemory P h = h
unwritten_still errors.SinkFault P h = tt
unwritten_still errors.Lacking P h = h
unwritten_still (errors.PastLimit limit) P h = h

-- nothing is written then
pub none_written : (Final : List ℕ → Type 0) (old : Option (List ℕ)) (Past : PathLimit → Type 0) (e : FinalError) → IsRefused ⊥ Past e → IsWrittenText Final old old (Err e)
none_written Final old Past errors.OutOfMemory h = refl
none_written Final old Past errors.SinkFault h = absurd h
none_written Final old Past errors.Lacking h = absurd h
none_written Final old Past (errors.PastLimit limit) h = refl

-- one of those that the folder holds
pub node_past : (f : Folder) (items : List ChangeItem) (limit : PathLimit) (ks : List Kept) → AreHeld f.nodes ks → IsOnePast limit ks → HasPathPast f items limit
node_past f items limit [] held h = absurd h
node_past f items limit (k ∷ ks) held (inl past) = OfNode held.0.0 k held.0.1 past
node_past f items limit (k ∷ ks) held (inr later) = node_past f items limit ks held.1 later

-- ---- items of marks tell their kinds, and no flag in a delete

what_fits : (kind : Kind) (what : What) → flags_fit (action_of what) (change_of kind what).text_changed (change_of kind what).props_changed ≡ true
what_fits kind (whats.Make source) = refl
what_fits kind whats.Gone = refl
what_fits kind whats.Text = refl
what_fits kind whats.Prop = refl

item_told : (item : ChangeItem) (m : Mark) → IsItemOf item m → is_told item ≡ true
item_told item m is =
    and_from (is_some item.kind) (flags_fit item.action item.text_changed item.props_changed) (ap (λ (k : Option Kind). is_some k) is.kind)
    ((λ i. flags_fit (is.action i) (is.text i) (is.props i)) ∙ what_fits m.kind m.what)

items_told : (items : List ChangeItem) (marks : List Mark) → AreItemsOf items marks → AllByRecursion (λ item. is_told item ≡ true) items
items_told [] marks h = tt
items_told (item ∷ items) [] h = absurd h
items_told (item ∷ items) (m ∷ marks) h = (item_told item m h.0, items_told items marks h.1)

pub none_untold : (items : List ChangeItem) (marks : List Mark) → AreItemsOf items marks → IsOneUntold items → ⊥
none_untold items marks h one =
    differ (is_told one.1) (All-contains (λ item. is_told item ≡ true) items one.1 (All-from_recursion (λ item. is_told item ≡ true) items (items_told items marks h)) (one.0, one.2, one.3)) one.4
