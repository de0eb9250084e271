-- Texts, from what the calls of a transaction tell.
use Rattle.std.proofs.Common.{◌≡◌, ◌≤◌, ◌<◌, ℕ, Bool, true, List, [], ◌∷◌, ◌++◌, length, refl, sym, ap, subst, ◌∙◌, inl, inr, append_assoc, append-nil, arith}
use Rattle.std.proofs.lemmas.Bool.{le-leb, lt-leb}
use Rattle.std.proofs.lemmas.List.{length-append}
use Rattle.std.specs.Prelude.{Option, Some, None, is_some, if◌then◌else◌, Result, Ok, Err, Vec}
use Rattle.std.specs.Global.{Global}
use Rattle.fsfs_base.specs.Paths.{Path}
use Rattle.fsfs_base.specs.declared.kind.Kind.{Kind}
use Rattle.fsfs_base.proofs.PathLemmas.{same_path-refl}
use Rattle.fsfs_base.specs.declared.kind.Kind.TheVariants.{File, Dir}
use Rattle.fsfs_base.specs.declared.fields.txn_name.TxnName.{TxnName}
use Rattle.fsfs_tree.specs.Nodes.{Node, TreeFunction, empty_node}
use Rattle.fsfs_model.specs.Flat.Edits.{parent, is_dir, with_node, with_text}
use Rattle.fsfs_model.specs.declared.flat.mark.Mark.{Mark}
use Rattle.fsfs_model.specs.declared.flat.mark.What.TheVariants as whats
use Rattle.fsfs_revision.specs.Told.{RevisionBytes}
use Rattle.fsfs_draft.specs.Drafts.{Folder}
use Rattle.fsfs_draft.specs.Walks.{HasKind}
use Rattle.fsfs_txn.specs.Edits.Mergeinfo.{Counts}
use Rattle.fsfs_txn.specs.Edits.Texts.{IsPuttingText, IsTextPut as IsTxnText, IsTooLong}
use Rattle.fsfs_txn.specs.Standing.{Stands}
use Rattle.fsfs_txn.specs.declared.txn_error.TxnError.{TxnError}
use Rattle.fsfs_txn.specs.declared.opening.Opened.{Opened}
use Rattle.fsfs_txn.specs.declared.edits.texts.TextSet.{TextSet}
use Rattle.fsfs_txn.specs.declared.edits.texts.TextSet.TheVariants as texts
use Rattle.fsfs_script.specs.declared.job_lines.edit.PutText.{PutText}
use Rattle.fsfs_script.specs.declared.job_lines.edit.Edit.TheVariants.{MakeFile, Put}
use Rattle.fsfs_cli.specs.declared.faults.fault.Fault.{Fault}
use Rattle.fsfs_cli.specs.declared.faults.fault.Fault.TheVariants.{Request, Limit}
use Rattle.fsfs_cli.specs.declared.faults.request_fault.RequestFault.TheVariants.{NotFile}
use Rattle.fsfs_cli.specs.declared.faults.limit_fault.LimitFault.TheVariants.{TextTooLong}
use Rattle.fsfs_jobs.specs.Edits.{make_fault, put_fault, too_long, with_file, file_marks, grown_dir, HasSpaceFor, IsFullFor, Allows, ByTrees, Full, Long}
use Rattle.fsfs_jobs.specs.JobEdits.Answers.{fault_of_left, fault_of_failure, text_fault, counts_mergeinfo, Tells}
use Rattle.fsfs_jobs.specs.JobEdits.Editing.{IfRefused, Bars, IsEditing, MeetsOnWay, text_mark, IsTextPut, RefusesText, OfDir, OfCounts, OfLength, IsTextAt, RefusesTextOn, IsTextOn}
use Rattle.fsfs_jobs.proofs.TellLemmas.{left_refused, or_memory, failed_as}
use Rattle.fsfs_txn.specs.Spending.{IsFailure}
use Rattle.fsfs_jobs.proofs.SetLemmas.{refused_more, memory_only, not_opened}

-- where there is any memory, there are bytes that are a text
pub bytes_like : (K : Type 0) (like : Vec K Global) (text : List ℕ) → length text ≤ 1_073_741_824 → (v : Vec ℕ Global) × (v.items ≡ text)
bytes_like K like text le =
    (record { ptr = like.ptr; len = length text; cap = length text; alloc = like.alloc; items = text; ok = (refl, omega arith); small = omega (arith, le) }, refl)

abbrev length_row : Bool → Option Fault
length_row b = if b then None else Some (Limit TextTooLong)

fits : (put : PutText) → length put.text ≤ 1_073_741_824 → too_long (Put put) ≡ None
fits put le = ap length_row (le-leb (length put.text) 1_073_741_824 le)

long : (put : PutText) → 1_073_741_824 < length put.text → too_long (Put put) ≡ Some (Limit TextTooLong)
long put lt = ap length_row (lt-leb (length put.text) 1_073_741_824 lt)

module _ (Told : Type 0) (told : Told) (look : RevisionBytes) (trees : ℕ → TreeFunction) (top base : ℕ) (txn : TxnName) (before : Folder) (tree : TreeFunction) (marks : List Mark) (moves : ℕ) (opened : Opened) (put : PutText) (path_is : opened.way.path ≡ put.path) (to : Option (List ℕ)) (bytes : length put.text ≤ 1_073_741_824 → (v : Vec ℕ Global) × (v.items ≡ put.text)) (after : Folder) where
  abbrev Refused_text : Fault → Type 0
  Refused_text = RefusesText tree opened.counted put

  abbrev StandsPut : Path → List ℕ → Type 0
  StandsPut p text = Stands look trees top base txn after (with_node tree p (with_text text (tree p))) (marks ++ text_mark tree p ∷ [])

  put_done : HasKind (tree opened.way.path) File → IsTxnText Told look trees top base txn tree marks opened.way.path (Some put.text) to None after → IsTextPut look trees top base txn tree marks put after
  put_done file p =
      let is : put.text ≡ p.text = p.given.0 in
      let short : length put.text ≤ 1_073_741_824 = omega (arith, p.short, ap length is) in
      let v = bytes short in
      let e = p.edited told v.0 (v.1 ∙ is) in
      let first : StandsPut opened.way.path v.0.items = e.stands in
      let there : StandsPut put.path v.0.items = subst (λ (q : Path). StandsPut q v.0.items) path_is first in
      record { file = subst (λ (q : Path). HasKind (tree q) File) path_is file; short = fits put short; stands = subst (StandsPut put.path) v.1 there }

  put_long : IsTooLong (Some put.text) to → 1_073_741_824 < length put.text
  put_long w = omega (arith, ap length w.1.1, length-append w.0 w.1.0, w.2)

  pub put_at : (outcome : Result TextSet TxnError) (result : Result (Unit {0}) Fault) → IsPuttingText Told look trees top base txn tree marks moves opened (Some put.text) to None before after outcome → Tells fault_of_left (text_fault put.path) outcome result
      → IsTextAt look trees top base txn tree marks opened.counted put after result
  put_at (Ok texts.Done) (Ok done) m t = put_done m.0 m.2
  put_at (Ok texts.Done) (Err fault) m t = absurd t
  put_at (Ok (texts.Stale was now)) (Ok done) m t = absurd t
  put_at (Ok (texts.Stale was now)) (Err fault) m t = memory_only (Refused_text fault) fault t
  put_at (Ok texts.NotFile) (Ok done) m t = absurd t
  put_at (Ok texts.NotFile) (Err fault) m t = or_memory Refused_text (Request (NotFile put.path)) fault t (OfDir (subst (λ (q : Path). HasKind (tree q) Dir) path_is m.0))
  put_at (Ok texts.Mergeinfo) (Ok done) m t = absurd t
  put_at (Ok texts.Mergeinfo) (Err fault) m t = or_memory Refused_text (counts_mergeinfo put.path) fault t (OfCounts (subst (λ (q : Path). HasKind (tree q) File) path_is m.0) m.1)
  put_at (Ok texts.SourceFault) (Ok done) m t = absurd t
  put_at (Ok texts.SourceFault) (Err fault) m t = memory_only (Refused_text fault) fault t
  put_at (Ok texts.TooLong) (Ok done) m t = absurd t
  put_at (Ok texts.TooLong) (Err fault) m t = or_memory Refused_text (Limit TextTooLong) fault t (OfLength (Limit TextTooLong) (subst (λ (q : Path). HasKind (tree q) File) path_is m.0) (long put (put_long m.2)))
  put_at (Ok (texts.Checksum kept found)) (Ok done) m t = absurd t
  put_at (Ok (texts.Checksum kept found)) (Err fault) m t = memory_only (Refused_text fault) fault t
  put_at (Err e) (Ok done) m t = absurd cc
  put_at (Err e) (Err fault) m t = failed_as Refused_text (fault_of_left e) fault t (left_refused e (Refused_text (fault_of_left e)))

-- ---- at a path

module _ (look : RevisionBytes) (trees : ℕ → TreeFunction) (top base : ℕ) (txn : TxnName) (before : Folder) (tree : TreeFunction) (marks : List Mark) (stands : Stands look trees top base txn before tree marks) (put : PutText) (after : Folder) where
  pub text_on : (counted : Bool) (result : Result (Unit {0}) Fault) → Counts look trees base stands.shows.0.shows.own put.path counted → IsTextAt look trees top base txn tree marks counted put after result → IsTextOn put txn base after result look trees top tree marks
  text_on counted (Ok done) c p = p
  text_on counted (Err fault) c p = refused_more (RefusesText tree counted put fault) (RefusesTextOn look trees top base txn tree marks put fault) fault
      (λ r. (counted, r, λ e. (before, stands, subst (λ (b : Bool). Counts look trees base stands.shows.0.shows.own put.path b) e c))) p

-- something stands at the path
module _ (look : RevisionBytes) (trees : ℕ → TreeFunction) (top base : ℕ) (txn : TxnName) (tree : TreeFunction) (marks : List Mark) (put : PutText) (node : Node) (here : tree put.path ≡ Some node) (after : Folder) where
  abbrev Bars_here : Fault → Type 0
  Bars_here fault = Bars look trees top base txn tree marks (Put put) fault

  stays : with_file tree put.path ≡ tree
  stays = ap (λ (o : Option Node). if is_some o then tree else with_node tree put.path (Some (empty_node File))) here

  no_more : file_marks tree put.path ≡ []
  no_more = ap (λ (o : Option Node). if is_some o then [] else record { path = put.path; kind = File; what = whats.Make None } ∷ []) here

  grows_none : grown_dir (Put put) tree ≡ None
  grows_none = ap (λ (o : Option Node). if is_some o then None else Some (parent put.path)) here

  rows : (kind : Kind) → node.kind ≡ kind → put_fault tree put.path (tree put.path) ≡ (if is_dir kind then Some (Request (NotFile put.path)) else None)
  rows kind e = ap (put_fault tree put.path) here ∙ ap (λ (k : Kind). if is_dir k then Some (Request (NotFile put.path)) else None) e

  kind_is : (kind : Kind) → HasKind (tree put.path) kind → node.kind ≡ kind
  kind_is kind h = subst (λ (o : Option Node). HasKind o kind) here h

  space : HasSpaceFor tree (grown_dir (Put put) tree)
  space = subst (HasSpaceFor tree) (sym grows_none) tt

  abbrev StandsOn : TreeFunction → List Mark → Type 0
  StandsOn t more = Stands look trees top base txn after (with_node t put.path (with_text put.text (t put.path))) (marks ++ (more ++ text_mark t put.path ∷ []))

  refused_here : (counted : Bool) (fault : Fault) → RefusesText tree counted put fault → (counted ≡ true → MeetsOnWay look trees top base txn tree marks put.path) → Bars_here fault
  refused_here counted fault (OfDir h) way = inl (ByTrees (Request (NotFile put.path)) (rows Dir (kind_is Dir h)))
  refused_here counted fault (OfCounts h e) way =
      let there : MeetsOnWay look trees top base txn (with_file tree put.path) (marks ++ file_marks tree put.path) put.path =
      subst (λ (t : TreeFunction). MeetsOnWay look trees top base txn t (marks ++ file_marks tree put.path) put.path) (sym stays)
      (subst (λ (ms : List Mark). MeetsOnWay look trees top base txn tree ms put.path) (sym (ap (λ (more : List Mark). marks ++ more) no_more ∙ append-nil marks)) (way e)) in
      inr (record { fits = rows File (kind_is File h); meets = inr there; fault_is = refl })
  refused_here counted fault (OfLength f h e) way = inl (Long f (rows File (kind_is File h)) space e)

  pub put_here : (result : Result (Unit {0}) Fault) → IsTextOn put txn base after result look trees top tree marks → IsEditing (Put put) txn base after result look trees top tree marks
  put_here (Ok done) p =
      let first : StandsOn tree [] = p.stands in
      let more : StandsOn tree (file_marks tree put.path) = subst (StandsOn tree) (sym no_more) first in
      (record { fits = rows File (kind_is File p.file); space = space; short = p.short }, subst (λ (t : TreeFunction). StandsOn t (file_marks tree put.path)) (sym stays) more)
  put_here (Err fault) p = refused_more (RefusesTextOn look trees top base txn tree marks put fault) (Bars_here fault) fault (λ w. refused_here w.0 fault w.1 w.2) p

abbrev pub made_tree : TreeFunction → Path → TreeFunction
made_tree t path = with_node t path (Some (empty_node File))

abbrev pub made_marks : List Mark → Path → List Mark
made_marks marks path = marks ++ record { path = path; kind = File; what = whats.Make None } ∷ []

-- nothing stands there, and the file was made
module _ (look : RevisionBytes) (trees : ℕ → TreeFunction) (top base : ℕ) (txn : TxnName) (tree : TreeFunction) (marks : List Mark) (put : PutText) (free : tree put.path ≡ None) (after : Folder) where
  abbrev Bars_new : Fault → Type 0
  Bars_new fault = Bars look trees top base txn tree marks (Put put) fault

  abbrev Made : TreeFunction
  Made = with_node tree put.path (Some (empty_node File))

  abbrev Mark_made : Mark
  Mark_made = record { path = put.path; kind = File; what = whats.Make None }

  made_is : with_file tree put.path ≡ Made
  made_is = ap (λ (o : Option Node). if is_some o then tree else Made) free

  mark_is : file_marks tree put.path ≡ Mark_made ∷ []
  mark_is = ap (λ (o : Option Node). if is_some o then [] else Mark_made ∷ []) free

  grows : grown_dir (Put put) tree ≡ Some (parent put.path)
  grows = ap (λ (o : Option Node). if is_some o then None else Some (parent put.path)) free

  new_rows : (o : Option Fault) → make_fault tree put.path ≡ o → put_fault tree put.path (tree put.path) ≡ o
  new_rows o e = ap (put_fault tree put.path) free ∙ e

  -- what refuses the file refuses the text
  pub not_made : (fault : Fault) → Bars look trees top base txn tree marks (MakeFile put.path) fault → Bars_new fault
  not_made fault (inl (ByTrees f e)) = inl (ByTrees f (new_rows (Some f) e))
  not_made fault (inl (Full e full)) = inl (Full (new_rows None e) (subst (λ (o : Option Path). IsFullFor tree o) (sym grows) full))
  not_made fault (inl (Long f e space long)) = let bad : None ≡ Some f = long in absurd cc
  not_made fault (inr w) = inr (record { fits = new_rows None w.fits; meets = inl w.meets; fault_is = w.fault_is })

  no_dir_file : (o : Option Node) → HasKind o File → HasKind o Dir → ⊥
  no_dir_file None f d = f
  no_dir_file (Some n) f d = let bad : File ≡ Dir = sym f ∙ d in cc

  refused_new : Allows trees top tree (MakeFile put.path) → (counted : Bool) (fault : Fault) → HasKind (Made put.path) File → RefusesText Made counted put fault → (counted ≡ true → MeetsOnWay look trees top base txn Made (marks ++ Mark_made ∷ []) put.path) → Bars_new fault
  refused_new allows counted fault file (OfDir h) way = absurd (no_dir_file (Made put.path) file h)
  refused_new allows counted fault file (OfCounts h e) way =
      let there : MeetsOnWay look trees top base txn (with_file tree put.path) (marks ++ file_marks tree put.path) put.path =
      subst (λ (t : TreeFunction). MeetsOnWay look trees top base txn t (marks ++ file_marks tree put.path) put.path) (sym made_is)
      (subst (λ (more : List Mark). MeetsOnWay look trees top base txn Made (marks ++ more) put.path) (sym mark_is) (way e)) in
      inr (record { fits = new_rows None allows.fits; meets = inr there; fault_is = refl })
  refused_new allows counted fault file (OfLength f h e) way = inl (Long f (new_rows None allows.fits) (subst (HasSpaceFor tree) (sym grows) allows.space) e)

  abbrev StandsNew : TreeFunction → List Mark → Type 0
  StandsNew t more = Stands look trees top base txn after (with_node t put.path (with_text put.text (t put.path))) (marks ++ (more ++ text_mark t put.path ∷ []))

  pub put_made : Allows trees top tree (MakeFile put.path) → HasKind (Made put.path) File → (result : Result (Unit {0}) Fault) → IsTextOn put txn base after result look trees top Made (marks ++ Mark_made ∷ []) → IsEditing (Put put) txn base after result look trees top tree marks
  put_made allows file (Ok done) p =
      let first : StandsNew Made (Mark_made ∷ []) = subst (λ (ms : List Mark). Stands look trees top base txn after (with_node Made put.path (with_text put.text (Made put.path))) ms) (append_assoc marks (Mark_made ∷ []) (text_mark Made put.path ∷ [])) p.stands in
      let more : StandsNew Made (file_marks tree put.path) = subst (StandsNew Made) (sym mark_is) first in
      (record { fits = new_rows None allows.fits; space = subst (HasSpaceFor tree) (sym grows) allows.space; short = p.short }, subst (λ (t : TreeFunction). StandsNew t (file_marks tree put.path)) (sym made_is) more)
  put_made allows file (Err fault) p = refused_more (RefusesTextOn look trees top base txn Made (marks ++ Mark_made ∷ []) put fault) (Bars_new fault) fault (λ w. refused_new allows w.0 fault file w.1 w.2) p

  -- the file stands there
  pub made_there : HasKind (Made put.path) File
  made_there = subst (λ (o : Option Node). HasKind o File) (sym here) refl
    where
      here : Made put.path ≡ Some (empty_node File)
      here = ap (λ (b : Bool). if b then Some (empty_node File) else tree put.path) (same_path-refl put.path)

-- ---- what was not opened

pub no_file_lacking : (o : Option Node) → HasKind o File → o ≡ None → ⊥
no_file_lacking None h e = h
no_file_lacking (Some n) h e = absurd cc

module _ (look : RevisionBytes) (trees : ℕ → TreeFunction) (top base : ℕ) (txn : TxnName) (tree : TreeFunction) (marks : List Mark) (put : PutText) (e : TxnError) (fault : Fault) (fails : IsFailure e) (is : fault ≡ fault_of_failure e) where
  pub put_not_opened : IfRefused fault (Bars look trees top base txn tree marks (Put put) fault)
  put_not_opened = not_opened (Bars look trees top base txn tree marks (Put put)) e fault fails is

  pub text_not_opened : IfRefused fault (RefusesTextOn look trees top base txn tree marks put fault)
  text_not_opened = not_opened (RefusesTextOn look trees top base txn tree marks put) e fault fails is
