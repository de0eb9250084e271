-- The text of what is left to write.
use Rattle.std.proofs.Common.{◌≡◌, ℕ, Bool, suc, List, [], ◌∷◌, ◌++◌, Result, Ok, Err, refl, sym, ap, subst, ◌∙◌, append_assoc, inl, inr}
use Rattle.std.specs.Prelude.{◌≢◌}
use Rattle.fsfs_base.specs.Paths.{PathName}
use Rattle.fsfs_base.specs.declared.kind.Kind.TheVariants.{File, Dir}
use Rattle.fsfs_revision.specs.Told.{RevisionBytes}
use Rattle.fsfs_noderev.specs.declared.node_rev.NodeRev.{NodeRev}
use Rattle.fsfs_revision.specs.declared.wrong.Wrong.{Wrong}
use Rattle.fsfs_revision.specs.Shows.Reading.{DirEntry, EntriesOf, OfEntry}
use Rattle.fsfs_dag.specs.TreeWalks.{Left, at_level, Enters}
use Rattle.fsfs_stands.specs.declared.look_fault.LookFault.TheVariants as faults
use Rattle.fsfs_revision.specs.declared.wrong.ReadError.{ReadError}
use Rattle.fsfs_revision.specs.declared.wrong.ReadError.TheVariants as reads
use Rattle.fsfs_look.specs.declared.look_error.LookError.{LookError}
use Rattle.fsfs_look.specs.Errors.{of_read}
use Rattle.fsfs_stands.specs.Texts.{End, Whole, Refused, Stopped}
use Rattle.fsfs_stands.specs.TreeTexts.{IsLine, NodeText, OfFile, OfDir, OfWrongDir, EntryText, OfNode, OfWrong, Stops, EntriesText, OfNone, OfLast, OfNext}
use Rattle.fsfs_look.specs.Walks.{Then, LeftText, Puts}

module _ (look : RevisionBytes) (ids : Bool) where
  -- the entries of a directory, and then the rest
  pub entries_then : (level : ℕ) (entries : List DirEntry) (rest : Left) (text : List ℕ) (end : End) → LeftText look ids (at_level level entries ++ rest) text end
      → Then (EntriesText look ids level entries) (LeftText look ids rest) text end
  entries_then level [] rest text end h = inr ([], text, OfNone level, h, refl)
  entries_then level (e ∷ entries) rest text end (inl (h, ne)) = inl (OfLast level e entries text end h ne, ne)
  entries_then level (e ∷ entries) rest text end (inr (first, behind, h, t, is)) = on (entries_then level entries rest behind end t)
    where
      on : Then (EntriesText look ids level entries) (LeftText look ids rest) behind end → Then (EntriesText look ids level (e ∷ entries)) (LeftText look ids rest) text end
      on (inl (k, ne)) = inl (subst (λ t. EntriesText look ids level (e ∷ entries) t end) (sym is) (OfNext level e entries first behind end h k), ne)
      on (inr (second, last, k, l, is2)) =
          inr (first ++ second, last, OfNext level e entries first second Whole h k, l, is ∙ ap (λ t. first ++ t) is2 ∙ sym (append_assoc first second last))

  -- a file's line, and then the rest
  pub file_then : (S : List ℕ → End → Type 0) (level : ℕ) (name : PathName) (v : NodeRev) (line text : List ℕ) (end : End) → IsLine ids level name v line → v.kind ≡ File → S text end
      → Then (NodeText look ids level name v) S (line ++ text) end
  file_then S level name v line text end is kind h = inr (line, text, OfFile level name v line is kind, h, refl)

  -- a directory's line, what stands in it, and then the rest
  pub dir_then : (S : List ℕ → End → Type 0) (level : ℕ) (name : PathName) (v : NodeRev) (line : List ℕ) (entries : List DirEntry) (text : List ℕ) (end : End) → IsLine ids level name v line → v.kind ≡ Dir → EntriesOf look v (Ok entries)
      → Then (EntriesText look ids (suc level) entries) S text end → Then (NodeText look ids level name v) S (line ++ text) end
  dir_then S level name v line entries text end is kind read (inl (h, ne)) = inl (OfDir level name v line entries text end is kind read h, ne)
  dir_then S level name v line entries text end is kind read (inr (first, rest, h, s, e)) =
      inr (line ++ first, rest, OfDir level name v line entries first Whole is kind read h, s, ap (λ t. line ++ t) e ∙ sym (append_assoc line first rest))

  -- the node of the first entry that is left
  pub node_first : (S : List ℕ → End → Type 0) (level : ℕ) (entry : DirEntry) (v : NodeRev) (text : List ℕ) (end : End) → OfEntry look entry (Ok v) → Then (NodeText look ids level entry.name v) S text end
      → Then (EntryText look ids level entry) S text end
  node_first S level entry v text end read (inl (h, ne)) = inl (OfNode level entry v text end read h, ne)
  node_first S level entry v text end read (inr (first, rest, h, s, e)) = inr (first, rest, OfNode level entry v first Whole read h, s, e)

  refused_ne : (fault : _) → Refused fault ≢ Whole
  refused_ne fault e = cc

  stopped_ne : Stopped ≢ Whole
  stopped_ne e = cc

  pub wrong_first : (S : List ℕ → End → Type 0) (level : ℕ) (entry : DirEntry) (w : Wrong) → OfEntry look entry (Err w) → Then (EntryText look ids level entry) S [] (Refused (faults.Wrong w))
  wrong_first S level entry w read = inl (OfWrong level entry w read, refused_ne (faults.Wrong w))

  pub refused_first : (S : List ℕ → End → Type 0) (level : ℕ) (entry : DirEntry) (v : NodeRev) (text : List ℕ) (fault : _) → OfEntry look entry (Ok v) → NodeText look ids level entry.name v text (Refused fault)
      → Then (EntryText look ids level entry) S text (Refused fault)
  refused_first S level entry v text fault read h = inl (OfNode level entry v text (Refused fault) read h, refused_ne fault)

  pub stops_first : (S : List ℕ → End → Type 0) (level : ℕ) (entry : DirEntry) → Then (EntryText look ids level entry) S [] Stopped
  stops_first S level entry = inl (Stops level entry, stopped_ne)

  -- ---- a node's line and its entries, as they were put

  pub puts_file : (level : ℕ) (name : PathName) (v : NodeRev) (rest : Left) (before now line : List ℕ) → IsLine ids level name v line → now ≡ before ++ line → v.kind ≡ File → Puts look ids level name v rest rest before now (Ok tt)
  puts_file level name v rest before now line is e kind = (line, e, λ text end h. file_then (LeftText look ids rest) level name v line text end is kind h)

  pub puts_wrong : (level : ℕ) (name : PathName) (v : NodeRev) (old new : Left) (before now line : List ℕ) → IsLine ids level name v line → now ≡ before ++ line → v.kind ≡ Dir → (e : ReadError) → Enters look level v old new (Err e)
      → Puts look ids level name v old new before now (Err (of_read e))
  puts_wrong level name v old new before now line is e kind (reads.Wrong w) entered = (line, e, OfWrongDir level name v line w is kind entered.0)
  puts_wrong level name v old new before now line is e kind reads.OutOfMemory entered = tt
  puts_wrong level name v old new before now line is e kind reads.DiskFault entered = tt

  pub puts_dir : (level : ℕ) (name : PathName) (v : NodeRev) (old new : Left) (before now line : List ℕ) → IsLine ids level name v line → now ≡ before ++ line → v.kind ≡ Dir → Enters look level v old new (Ok tt) → Puts look ids level name v old new before now (Ok tt)
  puts_dir level name v old new before now line is e kind (entries, read, items) = (line, e, text_of) where
    text_of : (text : List ℕ) (end : End) → LeftText look ids new text end → Then (NodeText look ids level name v) (LeftText look ids old) (line ++ text) end
    text_of text end h =
        let k : LeftText look ids (at_level (suc level) entries ++ old) text end = subst (λ (t : Left). LeftText look ids t text end) items h in
        dir_then (LeftText look ids old) level name v line entries text end is kind read (entries_then (suc level) entries old text end k)

  -- the same, where ids are shown as they were, of the same name, and before what was left
  pub puts_as : (other : Bool) (level : ℕ) (written name : PathName) (v : NodeRev) (was old new : Left) (before now : List ℕ) (r : Result (Unit {0}) LookError) → ids ≡ other → written ≡ name → was ≡ old
      → Puts look ids level written v was new before now r → Puts look other level name v old new before now r
  puts_as other level written name v was old new before now r same same_name same_left h =
      subst (λ b. Puts look b level name v old new before now r) same (subst (λ n. Puts look ids level n v old new before now r) same_name (subst (λ (t : Left). Puts look ids level written v t new before now r) same_left h))
