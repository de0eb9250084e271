-- How far the lines of the items were written.
use Rattle.std.proofs.Common.{◌≡◌, ℕ, ◌≤◌, List, [], ◌∷◌, ◌++◌, length, Option, Some, None, Result, Ok, Err, refl, sym, ap, subst, ◌∙◌, append_assoc, append-nil, arith, inl, inr, drop}
use Rattle.std.proofs.lemmas.List.{length-append}
use Rattle.fsfs_base.specs.Paths.{Path, path_text}
use Rattle.fsfs_revision.specs.declared.wrong.Wrong.{Wrong}
use Rattle.fsfs_revision.specs.declared.wrong.ReadError.{ReadError}
use Rattle.fsfs_revision.specs.declared.wrong.ReadError.TheVariants as reads
use Rattle.fsfs_revision.specs.Damage.Readings.{Answers}
use Rattle.fsfs_revision.specs.Told.{RevisionBytes}
use Rattle.fsfs_noderev.specs.declared.changes.item.ChangeItem.{ChangeItem}
use Rattle.fsfs_stands.specs.declared.look_fault.LookFault.TheVariants as faults
use Rattle.fsfs_stands.specs.Texts.{End, Whole, Refused, Stopped}
use Rattle.fsfs_look.specs.declared.look_error.LookError.{LookError}
use Rattle.fsfs_look.specs.declared.look_error.LookError.TheVariants as errors
use Rattle.fsfs_look.specs.Errors.{of_read}
use Rattle.fsfs_look.specs.Walks.{Walks}
use Rattle.fsfs_look.specs.Written.{Writes}
use Rattle.fsfs_look.proofs.ProgressLemmas.{Progress, adds_nothing, longer, ends_here, stops_here, all_written}
use Rattle.fsfs_stands.specs.Items.{ItemsOf}
use Rattle.fsfs_stands.specs.ChangedTexts.{ByText, by_text, in_order, ItemLines, LinesText, OfNone, OfItem, OfWrong, Stops, end_of, ByItems, ChangedText}
use Rattle.fsfs_history.specs.Views.{EndsText}

module _ (look : RevisionBytes) (rev : ℕ) (found : ByText) (wrong : Option Wrong) (R : List ℕ → End → Type 0) (before lines : List ℕ) (old new : Option (List ℕ)) where
  abbrev Left : List ChangeItem → List ℕ → End → Type 0
  Left items = LinesText look rev found (end_of wrong) items

  -- the lines of an item are put
  pub item_put : (item : ChangeItem) (left : List ChangeItem) (more now : List ℕ) → Progress R (Left (item ∷ left)) before lines old new → ItemLines look rev found item (Ok more) → now ≡ lines ++ more → Progress R (Left left) before now old new
  item_put item left more now p is e = longer R (Left (item ∷ left)) (Left left) before lines now more old new p e (λ text end h. OfItem item left more text end is h)

  -- or are not read
  pub item_fails : {A : Type 0} (view : A → List ℕ) (item : ChangeItem) (left : List ChangeItem) (e : ReadError) → Progress R (Left (item ∷ left)) before lines old new → Answers view (ItemLines look rev found item) (Err e) → Walks R before lines old new (Err (of_read e))
  item_fails view item left (reads.Wrong w) p h = (p.written, p.adds, ends_here R (Left (item ∷ left)) before lines lines [] (Refused (faults.Wrong w)) old new p (sym (append-nil lines)) (OfWrong item left w h))
  item_fails view item left reads.OutOfMemory p h = (p.written, p.adds, stops_here R (Left (item ∷ left)) before lines old new p (Stops (item ∷ left)))
  item_fails view item left reads.DiskFault p h = (p.written, p.adds, stops_here R (Left (item ∷ left)) before lines old new p (Stops (item ∷ left)))

  -- memory is wanting
  pub no_room : (items : List ChangeItem) (now : List ℕ) → Progress R (Left items) before lines old new → Walks R before now old new (Err errors.OutOfMemory)
  no_room items now p = (p.written, p.adds, stops_here R (Left items) before lines old new p (Stops items))

  -- all are put
  pub all_put : (r : Result (Unit {0}) LookError) → Progress R (LinesText look rev found (end_of wrong) []) before lines old new → EndsText wrong r → Walks R before lines old new r
  all_put r p ends = by wrong p ends
    where
      by : (wrong : Option Wrong) → Progress R (LinesText look rev found (end_of wrong) []) before lines old new → EndsText wrong r → Walks R before lines old new r
      by None p ends = subst (λ (x : Result (Unit {0}) LookError). Walks R before lines old new x) (sym ends) (all_written R (LinesText look rev found Whole []) before lines old new p OfNone)
      by (Some w) p ends =
          subst (λ (x : Result (Unit {0}) LookError). Walks R before lines old new x) (sym ends)
          (p.written, p.adds, ends_here R (LinesText look rev found (Refused (faults.Wrong w)) []) before lines lines [] (Refused (faults.Wrong w)) old new p (sym (append-nil lines)) OfNone)

-- ---- the whole text

pub no_items : {A : Type 0} (view : A → List ChangeItem × Option Wrong) (look : RevisionBytes) (rev : ℕ) (told : Option (List ℕ)) (e : ReadError) → Answers view (ItemsOf look rev) (Err e) → Writes (ChangedText look rev) told told (Err (of_read e))
no_items view look rev told (reads.Wrong w) h = ([], inr (inl (w, h, (refl, refl))), adds_nothing told)
no_items view look rev told reads.OutOfMemory h = ([], Stopped, inl (refl, refl), ([], [], refl, adds_nothing told))
no_items view look rev told reads.DiskFault h = ([], Stopped, inl (refl, refl), ([], [], refl, adds_nothing told))

pub no_memory : (look : RevisionBytes) (rev : ℕ) (told : Option (List ℕ)) → Writes (ChangedText look rev) told told (Err errors.OutOfMemory)
no_memory look rev told = ([], Stopped, inl (refl, refl), ([], [], refl, adds_nothing told))

pub of_items : (look : RevisionBytes) (rev : ℕ) (items : List ChangeItem) (wrong : Option Wrong) (found : ByText) → found ≡ by_text items → ItemsOf look rev (Ok (items, wrong)) → (text : List ℕ) (end : End) → LinesText look rev found (end_of wrong) (in_order found) text end
    → ChangedText look rev text end
of_items look rev items wrong found same read text end h = inr (inr ((items, wrong), read, subst (λ (f : ByText). LinesText look rev f (end_of wrong) (in_order f) text end) same h))
