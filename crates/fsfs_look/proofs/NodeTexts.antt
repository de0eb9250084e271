-- The text of a node at a path, to its end.
use Rattle.std.proofs.Common.{◌≡◌, ℕ, Bool, List, [], ◌++◌, Option, Result, Ok, Err, refl, sym, ap, subst, ◌∙◌, append_assoc, append-nil, inl, inr}
use Rattle.fsfs_base.specs.Paths.{PathName, Path}
use Rattle.fsfs_revision.specs.Told.{RevisionBytes}
use Rattle.fsfs_base.specs.Streams.{Adds}
use Rattle.fsfs_base.proofs.StreamLemmas.{adds_then}
use Rattle.fsfs_tree.specs.Answers.{last_name}
use Rattle.fsfs_noderev.specs.declared.node_rev.NodeRev.{NodeRev}
use Rattle.fsfs_revision.specs.Shows.Reading.{MetAt, Met, Stands, Lacking, Blocked}
use Rattle.fsfs_look.specs.declared.look_error.LookError.{LookError}
use Rattle.fsfs_look.specs.declared.look_error.LookError.TheVariants as errors
use Rattle.fsfs_stands.specs.declared.look_fault.LookFault.TheVariants as faults
use Rattle.fsfs_dag.specs.TreeWalks.{Left}
use Rattle.fsfs_base.specs.Output.{AddsFront}
use Rattle.fsfs_look.specs.Paths.{IsFound}
use Rattle.fsfs_stands.specs.Texts.{End, Whole, Refused, Stopped, AtPath}
use Rattle.fsfs_stands.specs.TreeTexts.{NodeText, TreeText}
use Rattle.fsfs_look.specs.Walks.{Then, LeftText, NodeFrom, Puts, Joins, JoinsSome, Walks, EndsSo}
use Rattle.fsfs_look.specs.Written.{Writes, WritesFront}
use Rattle.fsfs_look.proofs.ProgressLemmas.{adds_nothing}

-- ---- the node at the path, and nothing behind it

module _ (look : RevisionBytes) (ids : Bool) (name : PathName) (v : NodeRev) where
  alone : (text : List ℕ) (end : End) → Then (NodeText look ids 0 name v) (LeftText look ids []) text end → NodeText look ids 0 name v text end
  alone text end (inl (h, ne)) = h
  alone text end (inr (first, rest, h, (none, whole), e)) =
      subst (λ t. NodeText look ids 0 name v t end) (sym (e ∙ ap (λ t. first ++ t) none ∙ append-nil first)) (subst (λ x. NodeText look ids 0 name v first x) (sym whole) h)

  pub start_fails : (before now : List ℕ) (after : Left) (told : Option (List ℕ)) (e : LookError) → before ≡ [] → Puts look ids 0 name v [] after before now (Err e) → Walks (NodeFrom look ids name v) [] now told told (Err e)
  start_fails before now after told (errors.Fault fault) none (line, is, h) = ([], adds_nothing told, (line, inr h, sym (is ∙ ap (λ t. t ++ line) none)))
  start_fails before now after told errors.OutOfMemory none h = ([], adds_nothing told, (Stopped, [], ([], inl (refl, refl), refl)))
  start_fails before now after told errors.DiskFault none h = ([], adds_nothing told, (Stopped, [], ([], inl (refl, refl), refl)))
  start_fails before now after told errors.WriteFault none h = ([], adds_nothing told, (Stopped, [], ([], inl (refl, refl), refl)))

  module _ (before now : List ℕ) (after : Left) (none : before ≡ []) (put : Puts look ids 0 name v [] after before now (Ok tt)) where
    joins_on : (written : List ℕ) (end : End) (rest : List ℕ) → Joins (LeftText look ids after) now written end rest → Joins (NodeFrom look ids name v) [] written end rest
    joins_on written end rest (text, h, e) =
        (put.0 ++ text, inr (alone (put.0 ++ text) end (put.2 text end h)), ap (λ t. t ++ text) (sym (put.1 ∙ ap (λ t. t ++ put.0) none)) ∙ e)

    some_on : (written : List ℕ) → JoinsSome (LeftText look ids after) now written → JoinsSome (NodeFrom look ids name v) [] written
    some_on written (end, rest, h) = (end, rest, joins_on written end rest h)

    pub start_goes : (last : List ℕ) (old new : Option (List ℕ)) (r : Result (Unit {0}) LookError) → Walks (LeftText look ids after) now last old new r → Walks (NodeFrom look ids name v) [] last old new r
    start_goes last old new (Ok x) (written, adds, h) = (written, adds, joins_on written Whole last h)
    start_goes last old new (Err (errors.Fault fault)) (written, adds, h) = (written, adds, joins_on written (Refused fault) last h)
    start_goes last old new (Err errors.OutOfMemory) (written, adds, h) = (written, adds, some_on written h)
    start_goes last old new (Err errors.DiskFault) (written, adds, h) = (written, adds, some_on written h)
    start_goes last old new (Err errors.WriteFault) (written, adds, h) = (written, adds, some_on written h)

-- ---- the last lines are written

module _ (R : List ℕ → End → Type 0) (now : List ℕ) (old mid new : Option (List ℕ)) where
  last_lines : (written : List ℕ) (end : End) → Adds old mid written → Joins R [] written end now → Adds mid new now → (text : List ℕ) × R text end × Adds old new text
  last_lines written end adds (text, h, e) more = (text, h, subst (λ t. Adds old new t) (sym e) (adds_then old mid new written now adds more))

  last_front : (written : List ℕ) (end : End) → Adds old mid written → Joins R [] written end now → AddsFront mid new now → WritesFront R old new
  last_front written end adds (text, h, e) (front, rest, is, more) =
      (text, end, h, (written ++ front, rest, e ∙ ap (λ t. written ++ t) is ∙ sym (append_assoc written front rest), adds_then old mid new written front adds more))

some_written : (R : List ℕ → End → Type 0) (old new : Option (List ℕ)) (written : List ℕ) → Adds old new written → JoinsSome R [] written → WritesFront R old new
some_written R old new written adds (end, rest, (text, h, e)) = (text, end, h, (written, rest, e, adds))

pub ends_written : (R : List ℕ → End → Type 0) (now : List ℕ) (old mid new : Option (List ℕ)) (walked r : Result (Unit {0}) LookError) → Walks R [] now old mid walked → EndsSo now mid new walked r → Writes R old new r
ends_written R now old mid new (Ok x) (Ok y) (written, adds, h) more = last_lines R now old mid new written Whole adds h more
ends_written R now old mid new (Ok x) (Err e) (written, adds, h) (is, more) = subst (λ f. Writes R old new (Err f)) (sym is) (last_front R now old mid new written Whole adds h more)
ends_written R now old mid new (Err (errors.Fault fault)) (Ok y) h more = absurd more
ends_written R now old mid new (Err (errors.Fault fault)) (Err e) (written, adds, h) (inl (is, more)) = subst (λ f. Writes R old new (Err f)) (sym is) (last_lines R now old mid new written (Refused fault) adds h more)
ends_written R now old mid new (Err (errors.Fault fault)) (Err e) (written, adds, h) (inr (is, more)) = subst (λ f. Writes R old new (Err f)) (sym is) (last_front R now old mid new written (Refused fault) adds h more)
ends_written R now old mid new (Err errors.OutOfMemory) r (written, adds, h) (is, same) = subst (λ x. Writes R old new x) (sym is) (subst (λ t. WritesFront R old t) (sym same) (some_written R old mid written adds h))
ends_written R now old mid new (Err errors.DiskFault) r (written, adds, h) (is, same) = subst (λ x. Writes R old new x) (sym is) (subst (λ t. WritesFront R old t) (sym same) (some_written R old mid written adds h))
ends_written R now old mid new (Err errors.WriteFault) r (written, adds, h) (is, same) = subst (λ x. Writes R old new x) (sym is) (subst (λ t. WritesFront R old t) (sym same) (some_written R old mid written adds h))

-- ---- what is met at the path

pub writes_as : (R S : List ℕ → End → Type 0) (old new : Option (List ℕ)) (r : Result (Unit {0}) LookError) → ((text : List ℕ) (end : End) → R text end → S text end) → Writes R old new r → Writes S old new r
writes_as R S old new (Ok x) f (text, h, adds) = (text, f text Whole h, adds)
writes_as R S old new (Err (errors.Fault fault)) f (text, h, adds) = (text, f text (Refused fault) h, adds)
writes_as R S old new (Err errors.OutOfMemory) f (text, end, h, adds) = (text, end, f text end h, adds)
writes_as R S old new (Err errors.DiskFault) f (text, end, h, adds) = (text, end, f text end h, adds)
writes_as R S old new (Err errors.WriteFault) f (text, end, h, adds) = (text, end, f text end h, adds)

pub tree_at : (look : RevisionBytes) (rev : ℕ) (path : Path) (ids : Bool) (name : PathName) (v : NodeRev) → name ≡ last_name path → MetAt look rev path (Ok (Stands v)) → (text : List ℕ) (end : End) → NodeFrom look ids name v text end → TreeText look rev path ids text end
tree_at look rev path ids name v e met text end (inl h) = inl h
tree_at look rev path ids name v e met text end (inr h) = inr (inr (Stands v, met, subst (λ n. NodeText look ids 0 n v text end) e h))

-- there is no node at the path: nothing is written
module _ (look : RevisionBytes) (rev : ℕ) (path : Path) (M : Met → List ℕ → End → Type 0) (told : Option (List ℕ)) where
  nothing_front : WritesFront (AtPath look rev path M) told told
  nothing_front = ([], Stopped, inl (refl, refl), ([], [], refl, adds_nothing told))

  pub none_met : (e : LookError) → ((names : ℕ) → M (Lacking names) [] (Refused (faults.NotFound names))) → ((names : ℕ) → M (Blocked names) [] (Refused (faults.NotDir names))) → IsFound look rev path (Err e)
      → Writes (AtPath look rev path M) told told (Err e)
  none_met (errors.Fault (faults.NotFound names)) lacking blocked h = ([], inr (inr (Lacking names, h, lacking names)), adds_nothing told)
  none_met (errors.Fault (faults.NotDir names)) lacking blocked h = ([], inr (inr (Blocked names, h, blocked names)), adds_nothing told)
  none_met (errors.Fault (faults.Wrong w)) lacking blocked h = ([], inr (inl (w, h, (refl, refl))), adds_nothing told)
  none_met (errors.Fault faults.NotFile) lacking blocked h = absurd h
  none_met errors.OutOfMemory lacking blocked h = nothing_front
  none_met errors.DiskFault lacking blocked h = nothing_front
  none_met errors.WriteFault lacking blocked h = absurd h
