-- The replies of looks, from what a command did and printed.
use Rattle.std.proofs.Common.{◌≡◌, ◌≤◌, ◌<◌, ℕ, List, [], ◌++◌, inl, inr, refl, sym, ap, subst, ◌∙◌, append-nil, append_assoc, length, arith, ⊎_elim}
use Rattle.std.specs.Prelude.{Option, Some, None, IfSome, option_map, unwrap_or, Ok, Err, Result, slice_get, is_some, true, codes}
use Rattle.std.proofs.lemmas.Option.{none-some, slice_get_cases, slice_get_past}
use Rattle.fsfs_base.specs.Failures.{Rose}
use Rattle.fsfs_base.specs.Files.{Files}
use Rattle.std.specs.FinMap.{get}
use Rattle.fsfs_base.specs.Paths.{Path}
use Rattle.fsfs_tree.specs.Revisions.{Revision}
use Rattle.fsfs_tree.specs.Dated.{last_of}
use Rattle.fsfs_disk.specs.Trace.{Trace, files_now, labels_now}
use Rattle.fsfs_base.specs.Streams.{Adds}
use Rattle.fsfs_cli.specs.Lines.{line_of, status_of}
use Rattle.fsfs_cli.specs.CommandFaults.{fault_from_open, fault_from_look}
use Rattle.fsfs_cli.specs.declared.faults.fault.Fault.{Fault}
use Rattle.fsfs_cli.specs.declared.faults.fault.Fault.TheVariants.{Request, Outside, Memory}
use Rattle.fsfs_cli.specs.declared.faults.request_fault.RequestFault.TheVariants.{AlreadyRepo, NotRepo, NoRev, NoTxn}
use Rattle.fsfs_cli.specs.declared.faults.outside_fault.OutsideFault.{OutsideFault}
use Rattle.fsfs_cli.specs.declared.faults.outside_fault.OutsideFault.TheVariants.{Mount, Disk, Write, Bench}
use Rattle.fsfs_look.specs.declared.look_error.LookError.{LookError}
use Rattle.fsfs_look.specs.declared.look_error.LookError.TheVariants as errors
use Rattle.fsfs_look.specs.Written.{Writes}
use Rattle.fsfs_tree.specs.Answers.{Reply, prints, refuses, asked_revision, in_revision, of_revision}
use Rattle.fsfs_base.specs.Output.{AddsFront}
use Rattle.fsfs_layout.specs.Opening.{SmallTexts, small_texts, IsFsfs, IsOpened, IsNone}
use Rattle.fsfs_create.specs.OpenFaults.{OpensBecause}
use Rattle.fsfs_create.specs.Deciding.{IsOutside as IsOpenOutside}
use Rattle.fsfs_create.specs.Creation.{CreateFails, IsUnpublished, IsNoRepository}
use Rattle.fsfs_base.specs.declared.places.create_fault.CreateFault.TheVariants as create
use Rattle.fsfs_base.specs.declared.places.place.DiskPlace.TheVariants.{Read, Remove}
use Rattle.fsfs_base.specs.declared.places.place.DiskPlace.TheVariants as places
use Rattle.fsfs_disk.specs.declared.transactions.removing.RemovalFault.TheVariants as removal
use Rattle.fsfs_disk.specs.Transactions.Txns.{pair_of, AreTxns}
use Rattle.fsfs_disk.proofs.OneListing.{one_listing}
use Rattle.fsfs_disk.specs.Transactions.Removals.{first_lacking}
use Rattle.fsfs_stands.specs.Files.{StandsFor}
use Rattle.fsfs_layout.specs.declared.opened.Opened.{Opened}
use Rattle.fsfs_base.specs.declared.places.open_fault.OpenFault.{OpenFault}
use Rattle.fsfs_base.specs.declared.places.open_fault.OpenFault.TheVariants as opening
use Rattle.fsfs_stands.specs.Agreeing.{IsFront}
use Rattle.fsfs_stands.specs.Texts.{End, Whole, Refused, Stopped}
use Rattle.fsfs_cli.specs.Requests.{printed_path}
use Rattle.fsfs_cli.specs.declared.request.Look.{Look}
use Rattle.fsfs_cli.specs.declared.request.Look.TheVariants.{Youngest, Uuid, Dump, Verify, AtRevision}
use Rattle.fsfs_cli.specs.declared.request.RevisionLook.{RevisionLook}
use Rattle.fsfs_top.specs.Command.{Created, Tells, answer_of, identifier_of}
use Rattle.fsfs_top.specs.Looks.{all_bytes, TextOf, TextIn, revision_line, uuid_line, looked_revision, LacksRevision, IsFaultOf, DumpIn, VerifyIn, Looked, LooksInto, NotOpened, PrintsLine, PrintsLook}
use Rattle.fsfs_workers.specs.Openings.{OpensAs, DoesNotOpen}
use Rattle.fsfs_workers.proofs.Unopened.{does_not_open as refused_outside}
use Rattle.fsfs_top.specs.Replies.{Gives, OutsideFailed}
use Rattle.fsfs_top.specs.TxnAnswers.{first_missing, removal_reply, ListingAnswer, RemovalAnswer, names_text}
use Rattle.fsfs_top.specs.Transactions.{txns_of, ListsTxns, RemovesTxns}
use Rattle.fsfs_top.specs.Packing.{Packs, PrintsPacked}
use Rattle.fsfs_top.specs.PackAnswers.{packed_line, unpacked_of, PackAnswer}
use Rattle.fsfs_top.proofs.PacksTold.{packed_count}
use Rattle.fsfs_pack_run.specs.PackCauses.{IsWant, IfBench, IfDisk as IfPackDisk}
use Rattle.fsfs_pack_run.specs.PackFault.{PackFault}
use Rattle.fsfs_pack_run.specs.PackFault.TheVariants as pack
use Rattle.fsfs_pack_run.specs.Runs.{fault_from_pack, shards_of, PacksDisk, NotOpened as PackUnopened, Ended as PackEnded}
use Rattle.fsfs_top.specs.Scenes.{Scene, SinkScene}
use Rattle.fsfs_top.proofs.TxnsTold.{first_same}
use Rattle.fsfs_layout.proofs.OpeningLemmas.{one_youngest, one_layout, same_uuid}
use Rattle.fsfs_top.specs.DumpAnswers.{stops, dump_reply, DumpAnswer}
use Rattle.fsfs_top.specs.VerifyAnswers.{VerifyAnswer}
use Rattle.fsfs_top.proofs.FilesDecide.{same_text, same_dump, same_verify, look_or_memory}
use Rattle.fsfs_revision.specs.Damage.Damages.{place_of}
use Rattle.fsfs_revision.specs.declared.wrong.Wrong.TheVariants as wrongs
use Rattle.fsfs_stands.specs.declared.look_fault.LookFault.{LookFault}
use Rattle.fsfs_stands.specs.declared.look_fault.LookFault.TheVariants as faults
use Rattle.fsfs_dump.specs.Flat.{CutText, history_dump}
use Rattle.fsfs_dump.specs.Laws.{IsCut}
use Rattle.fsfs_dump.proofs.ByHistory.{dumps_by}
use Rattle.fsfs_revision.specs.RevBytes.{rev_bytes, props_bytes}
use Rattle.fsfs_sound.specs.Laws.{ShowsOpenHistory}
use Rattle.fsfs_sound.specs.OpenTexts.{HasOpenTexts}
use Rattle.fsfs_verify.specs.Texts.{verified_lines}
use Rattle.fsfs_verify.proofs.OneText.{nothing_refused, stopped_front}
use Rattle.fsfs_cli.specs.declared.tool.Tool.{Tool}
use Rattle.fsfs_cli.specs.declared.tool.Tool.TheVariants as tools

-- ---- first parts

pub adds_nothing : (old new : Option (List ℕ)) → new ≡ old → Adds old new []
adds_nothing None new e = tt
adds_nothing (Some text) new e = e ∙ ap (λ (s : List ℕ). Some s) (sym (append-nil text))

front_of_nothing : (old new : Option (List ℕ)) (text : List ℕ) → new ≡ old → AddsFront old new text
front_of_nothing old new text e = ([], text, refl, adds_nothing old new e)

-- a first part of a first part
front_more : (old new : Option (List ℕ)) (text whole : List ℕ) → IsFront text whole → AddsFront old new text → AddsFront old new whole
front_more old new text whole (rest, is) (front, left, parts, adds) = (front, left ++ rest, is ∙ ap (λ (t : List ℕ). t ++ rest) parts ∙ append_assoc front left rest, adds)

whole_front : (old new : Option (List ℕ)) (text : List ℕ) → Adds old new text → AddsFront old new text
whole_front old new text adds = (text, [], sym (append-nil text), adds)

same_front : (text whole : List ℕ) → text ≡ whole → IsFront text whole
same_front text whole e = ([], sym e ∙ sym (append-nil text))

-- ---- a repository is there or not

none_or_some : (texts : SmallTexts) (format : List ℕ) → IsNone texts → IsFsfs texts format → ⊥
none_or_some texts format (inl none) is = let e = sym none ∙ is.there in cc
none_or_some texts format (inr other) is = other is.fs_type

-- ---- the revisions of a history

-- the last is the youngest
pub last_is : (files : Files) (h : List Revision) (s : StandsFor files h) → last_of h ≡ s.opened.youngest
last_is files h s = omega (arith, s.count)

there_is : (h : List Revision) (r : ℕ) → r < length h → (x : Revision) × (slice_get h r ≡ Some x)
there_is h r less = elim (slice_get_cases h r).1 [ inl w ↦ (w.0, w.2) | inr w ↦ absurd (omega (arith, less, w.0)) ]

no_some : (file : Option (List ℕ)) → file ≡ None → is_some file ≡ true → ⊥
no_some None e h = cc
no_some (Some bytes) e h = cc

-- ---- a text and its end are those of a reply

-- all before what is refused was printed
abbrev pub EndsFit : Tool → Path → Reply → List ℕ → End → Type 0
EndsFit tool path reply text Whole = reply ≡ prints text
EndsFit tool path reply text (Refused why) = reply ≡ stops text (line_of tool (fault_from_look path why)) (status_of (fault_from_look path why))
EndsFit tool path reply text Stopped = IsFront text reply.output

-- of a look that prints nothing where it is refused
abbrev pub Fits : Tool → Path → Reply → List ℕ → End → Type 0
Fits tool path reply text Whole = reply ≡ prints text
Fits tool path reply text (Refused why) = (text ≡ []) × (reply ≡ refuses (line_of tool (fault_from_look path why)) (status_of (fault_from_look path why)))
Fits tool path reply text Stopped = IsFront text reply.output

ends_fit : (tool : Tool) (path : Path) (reply : Reply) (text : List ℕ) (end : End) → Fits tool path reply text end → EndsFit tool path reply text end
ends_fit tool path reply text Whole fit = fit
ends_fit tool path reply text (Refused why) fit =
    subst (λ (t : List ℕ). reply ≡ stops t (line_of tool (fault_from_look path why)) (status_of (fault_from_look path why))) (sym fit.0) fit.1
ends_fit tool path reply text Stopped fit = fit

-- a dump up to a text that is not read
delta_fits : (text front : List ℕ) (at : ℕ × ℕ) (why : LookFault) → text ≡ front → why ≡ faults.Wrong (wrongs.Delta (place_of at.0 at.1)) → EndsFit tools.Admin [] (dump_reply (front, Some at)) text (Refused why)
delta_fits text front at why same is =
    subst (λ (t : List ℕ). EndsFit tools.Admin [] (dump_reply (front, Some at)) t (Refused why)) (sym same)
    (subst (λ (w : LookFault). EndsFit tools.Admin [] (dump_reply (front, Some at)) front (Refused w)) (sym is) refl)

dump_fits : (cut : CutText) (text : List ℕ) (end : End) → IsCut cut text end → EndsFit tools.Admin [] (dump_reply cut) text end
dump_fits (whole, None) text Whole is = ap prints (sym is)
dump_fits (whole, None) text (Refused why) is = absurd is
dump_fits (whole, None) text Stopped is = is
dump_fits (front, Some at) text Whole is = absurd is
dump_fits (front, Some at) text (Refused why) is = delta_fits text front at why is.0 is.1
dump_fits (front, Some at) text Stopped is = is

-- a check of files that stand for a history no text of which is a delta
module _ (files : Files) (h : List Revision) (s : StandsFor files h) (open_texts : HasOpenTexts h) where
  shows : ShowsOpenHistory (rev_bytes s.opened.layout files) (props_bytes s.opened.layout files) s.opened.youngest
  shows = record { history = h; count = s.count; shown = s.history; open_texts = open_texts }

  verify_fits : (tool : Tool) (text : List ℕ) (end : End) → VerifyIn s.opened files text end → EndsFit tool [] (VerifyAnswer (Some h)) text end
  verify_fits tool text Whole is = ap (λ (n : ℕ). prints (verified_lines n)) s.count ∙ ap prints (sym is.0)
  verify_fits tool text (Refused why) is = absurd (nothing_refused (rev_bytes s.opened.layout files) (props_bytes s.opened.layout files) s.opened.youngest text why shows is)
  verify_fits tool text Stopped is =
      subst (λ (n : ℕ). IsFront text (verified_lines n)) (sym s.count) (stopped_front (rev_bytes s.opened.layout files) (props_bytes s.opened.layout files) s.opened.youngest text is)

-- ---- where the outside failed

module _ (status : ℕ) (tool : Tool) (a b : Scene) (err_old err_new : SinkScene) where
  abbrev pub Given : Reply → Type 0
  Given = Gives status a b err_old err_new

  -- what is known of the status and of the error output
  abbrev pub Ended : Option Fault → Type 0
  Ended fault = (status ≡ answer_of fault) × Tells tool err_old err_new fault

  moved : (f g : Option Fault) → f ≡ g → Ended f → Ended g
  moved f g e is = subst Ended e is

  added_none : b.out ≡ a.out → Adds a.out.written b.out.written []
  added_none kept = adds_nothing a.out.written b.out.written (ap (λ (s : SinkScene). s.written) kept)

  front_none : (text : List ℕ) → b.out ≡ a.out → AddsFront a.out.written b.out.written text
  front_none text kept = front_of_nothing a.out.written b.out.written text (ap (λ (s : SinkScene). s.written) kept)

  outside_failed : (reply : Reply) (why : OutsideFault) (fault : Option Fault) → fault ≡ Some (Outside why) → Ended fault → OutsideFailed a b → b.out ≡ a.out → Given reply
  outside_failed reply why fault is ends failed kept = inr (front_none reply.output kept, inl ((moved fault (Some (Outside why)) is ends).0, failed))

  starved : (reply : Reply) (fault : Option Fault) → fault ≡ Some Memory → Ended fault → b.out ≡ a.out → Given reply
  starved reply fault is ends kept = inr (front_none reply.output kept, inr (moved fault (Some Memory) is ends).0)

  refused_line : (reply : Reply) (fault : Fault) → reply ≡ refuses (line_of tool fault) (status_of fault) → Ended (Some fault) → Adds a.out.written b.out.written [] → Given reply
  refused_line reply fault is ends adds = subst Given (sym is) (inl (ends.0, adds, ends.1))

  stopped_line : (reply : Reply) (text : List ℕ) (fault : Fault) → reply ≡ stops text (line_of tool fault) (status_of fault) → Ended (Some fault) → Adds a.out.written b.out.written text → Given reply
  stopped_line reply text fault is ends adds = subst Given (sym is) (inl (ends.0, adds, ends.1))

  printed_text : (reply : Reply) (text : List ℕ) → reply ≡ prints text → Ended None → Adds a.out.written b.out.written text → Given reply
  printed_text reply text is ends adds = subst Given (sym is) (inl (ends.0, adds, inl (adds_nothing err_old.written err_new.written (ap (λ (s : SinkScene). s.written) ends.1))))

  -- ---- a creation

  -- where there is no repository
  pub given_create : (repos : List ℕ) (shard : ℕ) (clock : Option ℕ) (dice : Option (List ℕ)) (t : Trace) (fault : Option Fault) → a.host.disk_at repos ≡ Some t → IsUnpublished (files_now t) → Ended fault → Created repos shard clock dice a.host b.host fault → b.out ≡ a.out
      → Given (prints [])
  given_create repos shard clock dice t fault here none ends (inl (e, rose, same)) kept = outside_failed (prints []) Mount fault e ends (inl rose) kept
  given_create repos shard clock dice t fault here none ends (inr (inl (create.AlreadyRepo, e, (d, there)))) kept =
      absurd (no_some (get (files_now t) (codes "db/format")) none (subst (λ (x : Option Trace). CreateFails (Rose a.host.disk_faults b.host.disk_faults) shard (identifier_of clock dice d) d.moment x (b.host.disk_at repos) create.AlreadyRepo) here there).0)
  given_create repos shard clock dice t fault here none ends (inr (inl (create.DiskFault place, e, (d, why)))) kept = outside_failed (prints []) (Disk place) fault e ends (inr (inl why.0)) kept
  given_create repos shard clock dice t fault here none ends (inr (inl (create.Memory, e, (d, why)))) kept = starved (prints []) fault e ends kept
  given_create repos shard clock dice t fault here none ends (inr (inr (e, absent, made))) kept = printed_text (prints []) [] refl (moved fault None e ends) (added_none kept)

  -- and where there is one
  pub given_again : (repos : List ℕ) (shard : ℕ) (clock : Option ℕ) (dice : Option (List ℕ)) (t : Trace) (fault : Option Fault) (reply : Reply) (text : List ℕ) → a.host.disk_at repos ≡ Some t → get (files_now t) (codes "db/format") ≡ Some text
      → reply ≡ refuses (line_of tool (Request AlreadyRepo)) 1 → Ended fault → Created repos shard clock dice a.host b.host fault → b.out ≡ a.out → Given reply
  given_again repos shard clock dice t fault reply text here there is ends (inl (e, rose, same)) kept = outside_failed reply Mount fault e ends (inl rose) kept
  given_again repos shard clock dice t fault reply text here there is ends (inr (inl (create.AlreadyRepo, e, (d, why)))) kept = refused_line reply (Request AlreadyRepo) is (moved fault (Some (Request AlreadyRepo)) e ends) (added_none kept)
  given_again repos shard clock dice t fault reply text here there is ends (inr (inl (create.DiskFault place, e, (d, why)))) kept = outside_failed reply (Disk place) fault e ends (inr (inl why.0)) kept
  given_again repos shard clock dice t fault reply text here there is ends (inr (inl (create.Memory, e, (d, why)))) kept = starved reply fault e ends kept
  given_again repos shard clock dice t fault reply text here there is ends (inr (inr (e, absent, made))) kept = absurd (none-some text (sym (subst IsNoRepository here absent) ∙ there))

  -- ---- a repository that was not opened

  -- one that opens: the outside failed
  outside_opening : (reply : Reply) (at : Option Trace) (why : OpenFault) (fault : Option Fault) → fault ≡ Some (fault_from_open why) → Ended fault → b.out ≡ a.out → OpensBecause (Rose a.host.disk_faults b.host.disk_faults) at why → IsOpenOutside why → Given reply
  outside_opening reply at opening.NotRepo fault is ends kept because out = absurd out
  outside_opening reply at (opening.OtherFormat n) fault is ends kept because out = absurd out
  outside_opening reply at opening.Linear fault is ends kept because out = absurd out
  outside_opening reply at (opening.Small small) fault is ends kept because out = absurd out
  outside_opening reply at (opening.DiskFault place) fault is ends kept because out = outside_failed reply (Disk place) fault is ends (inr (inl because.0)) kept
  outside_opening reply at opening.Memory fault is ends kept because out = starved reply fault is ends kept

  -- none
  none_there : (reply : Reply) (t : Trace) (why : OpenFault) (fault : Option Fault) → reply ≡ refuses (line_of tool (Request NotRepo)) 1 → IsNone (small_texts (files_now t)) → fault ≡ Some (fault_from_open why) → Ended fault → b.out ≡ a.out
      → OpensBecause (Rose a.host.disk_faults b.host.disk_faults) (Some t) why → Given reply
  none_there reply t opening.NotRepo fault is none e ends kept because = refused_line reply (Request NotRepo) is (moved fault (Some (Request NotRepo)) e ends) (added_none kept)
  none_there reply t (opening.OtherFormat n) fault is none e ends kept because = absurd (none_or_some (small_texts (files_now t)) because.0 none because.1)
  none_there reply t opening.Linear fault is none e ends kept because = absurd (none_or_some (small_texts (files_now t)) because.1.0 none because.1.1)
  none_there reply t (opening.Small small) fault is none e ends kept because = absurd (none_or_some (small_texts (files_now t)) because.0 none because.1)
  none_there reply t (opening.DiskFault place) fault is none e ends kept because = outside_failed reply (Disk place) fault e ends (inr (inl because.0)) kept
  none_there reply t opening.Memory fault is none e ends kept because = starved reply fault e ends kept

  -- ---- a look

  module _ (repos : List ℕ) (t : Trace) (here : a.host.disk_at repos ≡ Some t) (fault : Option Fault) (ends : Ended fault) where
    caused : (why : OpenFault) → OpensBecause (Rose a.host.disk_faults b.host.disk_faults) (a.host.disk_at repos) why → OpensBecause (Rose a.host.disk_faults b.host.disk_faults) (Some t) why
    caused why because = subst (λ (x : Option Trace). OpensBecause (Rose a.host.disk_faults b.host.disk_faults) x why) here because

    not_opened : (reply : Reply) (o : Opened) → IsOpened (small_texts (files_now t)) o → NotOpened repos a b fault → Given reply
    not_opened reply o is (inl (e, rose, kept)) = outside_failed reply Mount fault e ends (inl rose) kept
    not_opened reply o is (inr (why, e, because, unopened, kept)) = outside_opening reply (Some t) why fault e ends kept (caused why because) (subst (λ (x : Option Trace). DoesNotOpen x why) here unopened o is)

    -- where there is no repository
    pub given_none : (look : Look) (reply : Reply) → reply ≡ refuses (line_of tool (Request NotRepo)) 1 → IsNone (small_texts (files_now t)) → PrintsLook repos look a b fault → Given reply
    given_none look reply is none (inl (inl (e, rose, kept))) = outside_failed reply Mount fault e ends (inl rose) kept
    given_none look reply is none (inl (inr (why, e, because, unopened, kept))) = none_there reply t why fault is none e ends kept (caused why because)
    given_none look reply is none (inr (o, opens, into)) = let there = subst (λ (x : Option Trace). OpensAs x o) here opens in absurd (none_or_some (small_texts (files_now t)) there.format.0 none there.format.1)

    -- ---- of transactions

    pub given_no_listing : (reply : Reply) → reply ≡ refuses (line_of tool (Request NotRepo)) 1 → IsNone (small_texts (files_now t)) → ListsTxns repos a b fault → Given reply
    given_no_listing reply is none (inl (inl (e, rose, kept))) = outside_failed reply Mount fault e ends (inl rose) kept
    given_no_listing reply is none (inl (inr (why, e, because, unopened, kept))) = none_there reply t why fault is none e ends kept (caused why because)
    given_no_listing reply is none (inr (o, opens, into)) = let there = subst (λ (x : Option Trace). OpensAs x o) here opens in absurd (none_or_some (small_texts (files_now t)) there.format.0 none there.format.1)

    pub given_no_removal : (reply : Reply) (txns : List (ℕ × ℕ)) → reply ≡ refuses (line_of tool (Request NotRepo)) 1 → IsNone (small_texts (files_now t)) → b.out ≡ a.out → RemovesTxns repos txns a.host b.host fault → Given reply
    given_no_removal reply txns is none kept (inl (e, rose, same)) = outside_failed reply Mount fault e ends (inl rose) kept
    given_no_removal reply txns is none kept (inr (inl (why, e, because, unopened, same))) = none_there reply t why fault is none e ends kept (caused why because)
    given_no_removal reply txns is none kept (inr (inr (o, opens, into))) = let there = subst (λ (x : Option Trace). OpensAs x o) here opens in absurd (none_or_some (small_texts (files_now t)) there.format.0 none there.format.1)

    -- ---- of packing

    no_pack : (reply : Reply) (bench : Type 0) (new : Option Trace) (told : Result ℕ Fault) → reply ≡ refuses (line_of tool (Request NotRepo)) 1 → IsNone (small_texts (files_now t))
        → PacksDisk a.host.disk_faults b.host.disk_faults bench (Some t) new told → PrintsPacked told a.out b.out fault → Given reply
    no_pack reply bench new _ is none (PackUnopened why because firm) printed = none_there reply t why fault is none printed.0 ends printed.1 because
    no_pack reply bench new _ is none (PackEnded o end opens over listed left disk failed) printed = absurd (none_or_some (small_texts (files_now t)) opens.format.0 none opens.format.1)

    pub given_no_pack : (reply : Reply) → reply ≡ refuses (line_of tool (Request NotRepo)) 1 → IsNone (small_texts (files_now t)) → Packs repos a b fault → Given reply
    given_no_pack reply is none (inl (e, rose, same, kept)) = outside_failed reply Mount fault e ends (inl rose) kept
    given_no_pack reply is none (inr (told, packs, printed)) =
        let bench = Rose a.host.bench_faults b.host.bench_faults in
        no_pack reply bench (b.host.disk_at repos) told is none (subst (λ (x : Option Trace). PacksDisk a.host.disk_faults b.host.disk_faults bench x (b.host.disk_at repos) told) here packs) printed

    -- the reply is by the first that there isn't
    removal_is : (txns there : List (ℕ × ℕ)) (o : Option (ℕ × ℕ)) → there ≡ txns_of (labels_now t) → IfSome (a.host.disk_at repos) (λ t. first_lacking txns (labels_now t) ≡ o) → RemovalAnswer txns (Some there) ≡ removal_reply o
    removal_is txns there o has first =
        let now : first_lacking txns (labels_now t) ≡ o = subst (λ (x : Option Trace). IfSome x (λ t. first_lacking txns (labels_now t) ≡ o)) here first in
        ap removal_reply (ap (first_missing txns) has ∙ sym (first_same txns (labels_now t)) ∙ now)

    pub given_removal : (txns there : List (ℕ × ℕ)) → tool ≡ tools.Admin → there ≡ txns_of (labels_now t) → (o : Opened) → IsOpened (small_texts (files_now t)) o → b.out ≡ a.out → RemovesTxns repos txns a.host b.host fault → Given (RemovalAnswer txns (Some there))
    given_removal txns there admin has o is kept (inl (e, rose, same)) = outside_failed (RemovalAnswer txns (Some there)) Mount fault e ends (inl rose) kept
    given_removal txns there admin has o is kept (inr (inl (why, e, because, unopened, same))) =
        outside_opening (RemovalAnswer txns (Some there)) (Some t) why fault e ends kept (caused why because) (subst (λ (x : Option Trace). DoesNotOpen x why) here unopened o is)
    given_removal txns there admin has o is kept (inr (inr (p, opens, (Ok done, removes, e, fails)))) =
        printed_text (RemovalAnswer txns (Some there)) [] (removal_is txns there None has removes.1) (moved fault None e ends) (added_none kept)
    given_removal txns there admin has o is kept (inr (inr (p, opens, (Err (removal.NoTxn name), removes, e, fails)))) =
        refused_line (RemovalAnswer txns (Some there)) (Request (NoTxn name)) (removal_is txns there (Some (pair_of name)) has removes.1 ∙ ap (λ (k : Tool). refuses (line_of k (Request (NoTxn name))) 1) (sym admin))
        (moved fault (Some (Request (NoTxn name))) e ends) (added_none kept)
    given_removal txns there admin has o is kept (inr (inr (p, opens, (Err removal.Failed, removes, e, fails)))) = outside_failed (RemovalAnswer txns (Some there)) (Disk Remove) fault e ends (inr (inl fails)) kept

    -- at the small files
    given_line : (line text : List ℕ) → line ≡ text → PrintsLine line a.out b.out fault → Given (prints text)
    given_line line text same (inl (e, adds)) = printed_text (prints text) text refl (moved fault None e ends) (subst (λ (x : List ℕ). Adds a.out.written b.out.written x) same adds)
    given_line line text same (inr (e, rose, front)) = inr (subst (λ (x : List ℕ). AddsFront a.out.written b.out.written x) same front, inl ((moved fault (Some (Outside Write)) e ends).0, inr (inr (inl rose))))

    -- the names that it printed are those of the labels, in their one order
    pub given_listing : (names : List (List ℕ)) → AreTxns (labels_now t) names → (o : Opened) → IsOpened (small_texts (files_now t)) o → ListsTxns repos a b fault → Given (ListingAnswer (Some names))
    given_listing names has o is (inl not) = not_opened (ListingAnswer (Some names)) o is not
    given_listing names has o is (inr (p, opens, inl (e, rose, kept))) = outside_failed (ListingAnswer (Some names)) (Disk places.List) fault e ends (inr (inl rose)) kept
    given_listing names has o is (inr (p, opens, inr (inl (e, kept)))) = starved (ListingAnswer (Some names)) fault e ends kept
    given_listing names has o is (inr (p, opens, inr (inr (printed, are, line)))) =
        let there : AreTxns (labels_now t) printed = subst (λ (x : Option Trace). IfSome x (λ t. AreTxns (labels_now t) printed)) here are in
        given_line (names_text printed) (names_text names) (ap names_text (one_listing (labels_now t) printed names there has)) line

    pub given_youngest : (o : Opened) (h : List Revision) → IsOpened (small_texts (files_now t)) o → last_of h ≡ o.youngest → PrintsLook repos Youngest a b fault → Given (prints (revision_line (last_of h)))
    given_youngest o h is last (inl not) = not_opened (prints (revision_line (last_of h))) o is not
    given_youngest o h is last (inr (p, opens, line)) =
        let there = subst (λ (x : Option Trace). OpensAs x p) here opens in
        given_line (revision_line p.youngest) (revision_line (last_of h)) (ap revision_line (one_youngest (small_texts (files_now t)) p o there is ∙ sym last)) line

    pub given_uuid : (o : Opened) → IsOpened (small_texts (files_now t)) o → PrintsLook repos Uuid a b fault → Given (prints (uuid_line o.uuid))
    given_uuid o is (inl not) = not_opened (prints (uuid_line o.uuid)) o is not
    given_uuid o is (inr (p, opens, line)) =
        let there = subst (λ (x : Option Trace). OpensAs x p) here opens in
        given_line (uuid_line p.uuid) (uuid_line o.uuid) (ap uuid_line (same_uuid (small_texts (files_now t)).uuid p.uuid o.uuid there.behind.uuid is.behind.uuid)) line

    -- packing of files that stand for a history
    module _ (h : List Revision) (s : StandsFor (files_now t) h) where
      abbrev pack_reply : Reply
      pack_reply = PackAnswer (Some (unpacked_of s.opened))

      -- it stopped: nothing was wrong with what was read
      pack_stopped : (why : PackFault) → IsWant why → IfPackDisk why (Rose a.host.disk_faults b.host.disk_faults) → IfBench why (Rose a.host.bench_faults b.host.bench_faults) → fault ≡ Some (fault_from_pack why) → b.out ≡ a.out → Given pack_reply
      pack_stopped (pack.Stuck place) want disk bench is kept = absurd want
      pack_stopped (pack.DiskFault place) want disk bench is kept = outside_failed pack_reply (Disk place) fault is ends (inr (inl disk)) kept
      pack_stopped pack.BenchFault want disk bench is kept = outside_failed pack_reply Bench fault is ends (inr (inr (inr bench))) kept
      pack_stopped (pack.Missing rev) want disk bench is kept = absurd want
      pack_stopped (pack.Small small) want disk bench is kept = absurd want
      pack_stopped pack.Memory want disk bench is kept = starved pack_reply fault is ends kept

      pack_told : (new : Option Trace) (told : Result ℕ Fault) → PacksDisk a.host.disk_faults b.host.disk_faults (Rose a.host.bench_faults b.host.bench_faults) (Some t) new told → PrintsPacked told a.out b.out fault → Given pack_reply
      pack_told new _ (PackUnopened why because firm) printed =
          outside_opening pack_reply (Some t) why fault printed.0 ends printed.1 because (refused_outside (Rose a.host.disk_faults b.host.disk_faults) (Some t) why because s.opened s.small)
      pack_told new _ (PackEnded o (Ok end) opens over listed left disk failed) printed =
          let w = over h s in
          let shards = shards_of end in
          given_line (packed_line shards) (packed_line (unpacked_of s.opened)) (ap packed_line (packed_count (files_now t) (files_now w.now) h s shards w.rose)) printed
      pack_told new _ (PackEnded o (Err why) opens over listed left disk failed) printed = pack_stopped why (over h s).want disk failed printed.0 printed.1

      pub given_pack : Packs repos a b fault → Given (PackAnswer (Some (unpacked_of s.opened)))
      given_pack (inl (e, rose, same, kept)) = outside_failed pack_reply Mount fault e ends (inl rose) kept
      given_pack (inr (told, packs, printed)) =
          pack_told (b.host.disk_at repos) told (subst (λ (x : Option Trace). PacksDisk a.host.disk_faults b.host.disk_faults (Rose a.host.bench_faults b.host.bench_faults) x (b.host.disk_at repos) told) here packs) printed

    -- at a revision

    front_of : (path : Path) (reply : Reply) (text : List ℕ) (end : End) → EndsFit tool path reply text end → IsFront text reply.output
    front_of path reply text Whole fit = same_front text reply.output (ap (λ (r : Reply). r.output) (sym fit))
    front_of path reply text (Refused why) fit = same_front text reply.output (ap (λ (r : Reply). r.output) (sym fit))
    front_of path reply text Stopped fit = fit

    -- a look that ended so
    ended_look : (R : List ℕ → End → Type 0) (path : Path) (reply : Reply) (r : Result (Unit {0}) LookError) → ((text : List ℕ) (end : End) → R text end → EndsFit tool path reply text end)
        → Writes R a.out.written b.out.written r → IsFaultOf (Rose a.host.disk_faults b.host.disk_faults) (Rose a.out.faults b.out.faults) path r fault → Given reply
    ended_look R path reply (Ok done) fits (text, t, adds) is = printed_text reply text (fits text Whole t) (moved fault None is ends) adds
    ended_look R path reply (Err (errors.Fault why)) fits (text, t, adds) (said, is, from, d, w) =
        let fit = fits text (Refused why) t in
        let Here : Fault → Type 0 = λ f. Ended (Some f) in
        let now : Here said = moved fault (Some said) is ends in
        ⊎_elim (λ e. stopped_line reply text (fault_from_look path why) fit (subst Here e now) adds)
        (λ e. inr (front_more a.out.written b.out.written text reply.output (front_of path reply text (Refused why) fit) (whole_front a.out.written b.out.written text adds), inr (subst Here e now).0)) (look_or_memory path why said from)
    ended_look R path reply (Err errors.DiskFault) fits (text, end, t, front) (said, is, at, d, w) =
        inr (front_more a.out.written b.out.written text reply.output (front_of path reply text end (fits text end t)) front, inl ((moved fault (Some (Outside (Disk Read))) (is ∙ ap (λ (f : Fault). Some f) at) ends).0, inr (inl d)))
    ended_look R path reply (Err errors.WriteFault) fits (text, end, t, front) (said, is, at, d, w) =
        inr (front_more a.out.written b.out.written text reply.output (front_of path reply text end (fits text end t)) front, inl ((moved fault (Some (Outside Write)) (is ∙ ap (λ (f : Fault). Some f) at) ends).0, inr (inr (inl w))))
    ended_look R path reply (Err errors.OutOfMemory) fits (text, end, t, front) (said, is, at, d, w) =
        inr (front_more a.out.written b.out.written text reply.output (front_of path reply text end (fits text end t)) front, inr (moved fault (Some Memory) (is ∙ ap (λ (f : Fault). Some f) at) ends).0)

    -- a dump
    pub given_dump : (h : List Revision) (s : StandsFor (files_now t) h) → tool ≡ tools.Admin → PrintsLook repos Dump a b fault → Given (DumpAnswer (Some (s.opened.uuid, h)))
    given_dump h s admin (inl not) = not_opened (DumpAnswer (Some (s.opened.uuid, h))) s.opened s.small not
    given_dump h s admin (inr (o, opens, into)) =
        let there = subst (λ (x : Option Trace). OpensAs x o) here opens in
        let cut = history_dump s.opened.uuid h in
        let dumped = subst (λ (x : Option Trace). LooksInto (Rose a.host.disk_faults b.host.disk_faults) Dump o (option_map files_now x) a.out b.out fault) here into in
        ended_look (DumpIn o (files_now t)) [] (dump_reply cut) dumped.result
        (λ text end x. subst (λ (k : Tool). EndsFit k [] (dump_reply cut) text end) (sym admin)
        (dump_fits cut text end (dumps_by (files_now t) h s s.opened.uuid text end (same_dump s.opened o (files_now t) text end s.small there x))))
        dumped.writes dumped.fault_is

    -- a check
    pub given_verify : (h : List Revision) (s : StandsFor (files_now t) h) → HasOpenTexts h → PrintsLook repos Verify a b fault → Given (VerifyAnswer (Some h))
    given_verify h s open_texts (inl not) = not_opened (VerifyAnswer (Some h)) s.opened s.small not
    given_verify h s open_texts (inr (o, opens, into)) =
        let there = subst (λ (x : Option Trace). OpensAs x o) here opens in
        let verified = subst (λ (x : Option Trace). LooksInto (Rose a.host.disk_faults b.host.disk_faults) Verify o (option_map files_now x) a.out b.out fault) here into in
        ended_look (VerifyIn o (files_now t)) [] (VerifyAnswer (Some h)) verified.result
        (λ text end x. verify_fits (files_now t) h s open_texts tool text end (same_verify s.opened o (files_now t) text end s.small there x))
        verified.writes verified.fault_is

    -- of a history, whose reply is by the revision
    module _ (look : RevisionLook) (h : List Revision) (s : StandsFor (files_now t) h) (reply : Revision → Reply) where
      given_lacking : (o : Opened) (rev : ℕ) → IsOpened (small_texts (files_now t)) o → LacksRevision look o rev → fault ≡ Some (Request (NoRev rev o.youngest)) → b.out ≡ a.out → in_revision reply rev o.youngest None ≡ refuses (line_of tool (Request (NoRev rev o.youngest))) 1
          → Given (of_revision look.revision h reply)
      given_lacking o rev opens lacks is kept line =
          let last : o.youngest ≡ last_of h = one_youngest (small_texts (files_now t)) o s.opened opens s.small ∙ sym (last_is (files_now t) h s) in
          let named : asked_revision look.revision h ≡ rev = ap (λ (r : Option ℕ). unwrap_or r (last_of h)) lacks.named in
          let above : length h ≤ rev = omega (arith, lacks.above, last, s.count, last_is (files_now t) h s) in
          let none : slice_get h rev ≡ None = slice_get_past h rev above in
          let same : of_revision look.revision h reply ≡ in_revision reply rev o.youngest None =
          ap (λ (a : ℕ). in_revision reply a (last_of h) (slice_get h a)) named ∙ ap (in_revision reply rev (last_of h)) none ∙ ap (λ (y : ℕ). in_revision reply rev y None) (sym last) in
          refused_line (of_revision look.revision h reply) (Request (NoRev rev o.youngest)) (same ∙ line) (moved fault (Some (Request (NoRev rev o.youngest))) is ends) (added_none kept)

      given_looked : (o : Opened) → IsOpened (small_texts (files_now t)) o → Looked (Rose a.host.disk_faults b.host.disk_faults) look o (Some (files_now t)) a.out b.out fault
          → ((rev : ℕ) (r : Revision) → rev ≡ asked_revision look.revision h → slice_get h rev ≡ Some r → (text : List ℕ) (end : End) → TextOf look.printed (all_bytes s.opened.layout (files_now t)) rev text end → Fits tool (printed_path look.printed) (reply r) text end)
          → Given (of_revision look.revision h reply)
      given_looked o opens looked fits =
          let p = s.opened in
          let youngest = one_youngest (small_texts (files_now t)) p o s.small opens in
          let last = last_is (files_now t) h s in
          let asked = asked_revision look.revision h in
          let is : looked_revision look p ≡ asked = ap (λ (y : ℕ). unwrap_or look.revision y) (sym last) in
          let also : looked_revision look o ≡ looked_revision look p = ap (λ (y : ℕ). unwrap_or look.revision y) (sym youngest) in
          let there = there_is h asked (omega (arith, looked.there, also, is, youngest, s.count)) in
          let same : of_revision look.revision h reply ≡ reply there.0 = ap (in_revision reply asked (last_of h)) there.1 in
          subst Given (sym same) (ended_look (TextIn look o (files_now t)) (printed_path look.printed) (reply there.0) looked.result
          (λ text end x. ends_fit tool (printed_path look.printed) (reply there.0) text end (fits asked there.0 refl there.1 text end
          (subst (λ (n : ℕ). TextOf look.printed (all_bytes s.opened.layout (files_now t)) n text end) is
          (same_text look p o (files_now t) text end (one_layout (small_texts (files_now t)) p o s.small opens) youngest x))))
          looked.writes looked.fault_is)

      pub given_look : ((rev : ℕ) (r : Revision) → rev ≡ asked_revision look.revision h → slice_get h rev ≡ Some r → (text : List ℕ) (end : End) → TextOf look.printed (all_bytes s.opened.layout (files_now t)) rev text end
          → Fits tool (printed_path look.printed) (reply r) text end)
          → ((asked youngest : ℕ) → in_revision reply asked youngest None ≡ refuses (line_of tool (Request (NoRev asked youngest))) 1) → PrintsLook repos (AtRevision look) a b fault → Given (of_revision look.revision h reply)
      given_look fits lacking (inl not) = not_opened (of_revision look.revision h reply) s.opened s.small not
      given_look fits lacking (inr (o, opens, into)) =
          let there = subst (λ (x : Option Trace). OpensAs x o) here opens in
          ⊎_elim (λ lacks. given_lacking o lacks.0 there lacks.1 lacks.2 lacks.3 (lacking lacks.0 o.youngest)) (λ looked. given_looked o there looked fits)
          (subst (λ (x : Option Trace). LooksInto (Rose a.host.disk_faults b.host.disk_faults) (AtRevision look) o (option_map files_now x) a.out b.out fault) here into)
