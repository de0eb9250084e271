-- What the files decide of a look, as the top call tells it.
use Rattle.std.proofs.Common.{◌≡◌, ◌≤◌, ℕ, List, [], ◌⊎◌, ⊎_elim, inl, inr, refl, sym, ap, subst, ◌∙◌, arith}
use Rattle.std.specs.Prelude.{Option, Some, None, IfSome, option_map, unwrap_or, Result, Ok, Err}
use Rattle.std.proofs.lemmas.Option.{same_Some}
use Rattle.fsfs_base.specs.Failures.{Rose}
use Rattle.fsfs_base.specs.Files.{Files}
use Rattle.fsfs_base.specs.Paths.{Path}
use Rattle.fsfs_disk.specs.Trace.{Trace, files_now}
use Rattle.fsfs_cli.specs.CommandFaults.{fault_from_open, fault_from_look, IsFromLook}
use Rattle.fsfs_cli.specs.declared.faults.fault.Fault.{Fault}
use Rattle.fsfs_cli.specs.declared.faults.fault.Fault.TheVariants.{Request, Memory}
use Rattle.fsfs_cli.specs.declared.faults.request_fault.RequestFault.TheVariants.{NoRev}
use Rattle.fsfs_layout.specs.declared.layout.Layout.{Layout}
use Rattle.fsfs_layout.specs.Folders.{AreShards}
use Rattle.fsfs_layout.specs.declared.small_files.format_file.FormatFile.TheVariants.{Known, Other}
use Rattle.fsfs_layout.proofs.Files.{one_format}
use Rattle.fsfs_layout.proofs.OpeningLemmas.{one_youngest, one_layout, same_uuid, says_one}
use Rattle.fsfs_look.specs.declared.look_error.LookError.TheVariants as errors
use Rattle.fsfs_look.specs.declared.look_error.LookError.{LookError}
use Rattle.fsfs_look.specs.Written.{Writes}
use Rattle.fsfs_layout.specs.Opening.{SmallTexts, small_texts, SaysFormat, IsOpened}
use Rattle.fsfs_layout.specs.declared.folders.Folders.TheVariants.{OneFolder}
use Rattle.fsfs_create.specs.OpenFaults.{OpensBecause}
use Rattle.fsfs_create.specs.Deciding.{Decides, IsOutside as IsOpenOutside}
use Rattle.fsfs_create.proofs.DecidingLemmas.{decides_linear, decides_other, decides_refused, decides_unread, is_some}
use Rattle.fsfs_layout.specs.declared.opened.Opened.{Opened}
use Rattle.fsfs_base.specs.declared.places.open_fault.OpenFault.{OpenFault}
use Rattle.fsfs_base.specs.declared.places.open_fault.OpenFault.TheVariants as opening
use Rattle.fsfs_stands.specs.Texts.{End, Whole, Refused}
use Rattle.fsfs_stands.specs.declared.look_fault.LookFault.{LookFault}
use Rattle.fsfs_stands.specs.declared.look_fault.LookFault.TheVariants as refusal
use Rattle.fsfs_top.specs.Looks.{AllBytes, all_bytes, TextOf, TextIn, revision_line, uuid_line, looked_revision, LacksRevision, IsFaultOf, DumpIn, VerifyIn, PrintsLine, LooksInto, IsOutside, Agrees, AreSound, TellsDamage, DecidesRevision, DecidesDump, DecidesVerify, DecidesOpened, DecidesOpening, LookIsDecided}
use Rattle.fsfs_workers.specs.Openings.{OpensAs, DoesNotOpen}
use Rattle.fsfs_workers.proofs.Unopened.{formatted, refused_behind}
use Rattle.fsfs_top.specs.Transactions.{OpeningIsDecided}
use Rattle.fsfs_top.specs.Scenes.{SinkScene}
use Rattle.fsfs_cli.specs.Requests.{printed_path}
use Rattle.fsfs_cli.specs.declared.request.Look.{Look}
use Rattle.fsfs_cli.specs.declared.request.Look.TheVariants.{Youngest, Uuid, Dump, Verify, AtRevision}
use Rattle.fsfs_cli.specs.declared.request.Printed.{Printed}
use Rattle.fsfs_cli.specs.declared.request.Printed.TheVariants.{Tree, Text, Author, Date, Log, Info, Changed, History}
use Rattle.fsfs_cli.specs.declared.request.RevisionLook.{RevisionLook}
use Rattle.fsfs_stands.specs.Agreeing.{HasOneText}
use Rattle.fsfs_stands.proofs.OneText.{tree_one, file_one}
use Rattle.fsfs_look.proofs.OneText.{authors_one, dates_one, logs_one, infos_one}
use Rattle.fsfs_stands.proofs.ChangedOneText.{changed_one}
use Rattle.fsfs_stands.proofs.OnePoint.{histories_one}
use Rattle.fsfs_stands.proofs.Prefixes.{whole_or_refused, refusals_same}
use Rattle.fsfs_revision.specs.RevBytes.{rev_bytes, props_bytes}
use Rattle.fsfs_revision.specs.RevProps.{only}
use Rattle.fsfs_dump.specs.Texts.{DumpText}
use Rattle.fsfs_dump.proofs.OneText.{dumps_one}
use Rattle.fsfs_sound.specs.Laws.{ShowsOpenHistory}
use Rattle.fsfs_verify.specs.Texts.{VerifyText}
use Rattle.fsfs_verify.proofs.OneText.{nothing_refused, one_refused}

-- ---- failures of the outside

outside_of_open : (why : OpenFault) → IsOpenOutside why → IsOutside (fault_from_open why)
outside_of_open opening.NotRepo h = absurd h
outside_of_open (opening.OtherFormat number) h = absurd h
outside_of_open opening.Linear h = absurd h
outside_of_open (opening.Small small) h = absurd h
outside_of_open (opening.DiskFault place) h = tt
outside_of_open opening.Memory h = tt

open_agrees : (why want : OpenFault) → (why ≡ want) ⊎ IsOpenOutside why → Agrees (Some (fault_from_open want)) (Some (fault_from_open why))
open_agrees why want (inl e) = inl (ap (λ x. Some (fault_from_open x)) (sym e))
open_agrees why want (inr h) = inr (outside_of_open why h)

-- ---- a look that failed before

opened_outside : (look : Look) (o : Opened) (m : Files) (fault : Fault) → IsOutside fault → DecidesOpened look o m (Some fault)
opened_outside Youngest o m fault out = inr out
opened_outside Uuid o m fault out = inr out
opened_outside Dump o m fault out = record { whole = λ text is. inr out; refused = λ text why is. inr out }
opened_outside Verify o m fault out = record { sound = λ sound. inr out; wrong = λ text why is. inr out }
opened_outside (AtRevision look) o m fault out = record { lacking = λ rev lacks. inr out; whole = λ text there is. inr out; refused = λ text why there is. inr out }

pub look_outside : (look : Look) (at : Option Trace) (fault : Fault) → IsOutside fault → LookIsDecided look at (Some fault)
look_outside look None fault out = tt
look_outside look (Some t) fault out = record { none = λ w. inr out; other = λ n w. inr out; linear = λ w. inr out; opened = λ o w. opened_outside look o (files_now t) fault out }

refused_opening : (Then : Opened → Type 0) (m : Files) (why : OpenFault) → Decides (small_texts m) (Err why) → ((o : Opened) → IsOutside (fault_from_open why) → Then o) → DecidesOpening Then m (Some (fault_from_open why))
refused_opening Then m why d outside = record {
  none = λ w. open_agrees why opening.NotRepo (d.none w);
  other = λ n w. open_agrees why (opening.OtherFormat n) (d.other n w);
  linear = λ w. open_agrees why opening.Linear (d.linear w);
  opened = λ o w. outside o (outside_of_open why (d.opened o w));
}

pub look_refusal : (look : Look) (told at : Option Trace) (why : OpenFault) (fault : Fault) → told ≡ at → fault ≡ fault_from_open why → IfSome told (λ t. Decides (small_texts (files_now t)) (Err why)) → LookIsDecided look at (Some fault)
look_refusal look told at why fault same from d = subst (λ f. LookIsDecided look at (Some f)) (sym from) (subst (λ x. LookIsDecided look x (Some (fault_from_open why))) same (so told d)) where
  so : (x : Option Trace) → IfSome x (λ t. Decides (small_texts (files_now t)) (Err why)) → LookIsDecided look x (Some (fault_from_open why))
  so None h = tt
  so (Some t) h = refused_opening (λ o. DecidesOpened look o (files_now t) (Some (fault_from_open why))) (files_now t) why h (λ o out. opened_outside look o (files_now t) (fault_from_open why) out)

-- ---- an opening, whatever is done then

pub opening_outside : (at : Option Trace) (fault : Fault) → IsOutside fault → OpeningIsDecided at (Some fault)
opening_outside None fault out = tt
opening_outside (Some t) fault out = record { none = λ w. inr out; other = λ n w. inr out; linear = λ w. inr out; opened = λ o w. tt }

pub opening_refusal : (told at : Option Trace) (why : OpenFault) (fault : Fault) → told ≡ at → fault ≡ fault_from_open why → IfSome told (λ t. Decides (small_texts (files_now t)) (Err why)) → OpeningIsDecided at (Some fault)
opening_refusal told at why fault same from d = subst (λ f. OpeningIsDecided at (Some f)) (sym from) (subst (λ x. OpeningIsDecided x (Some (fault_from_open why))) same (so told d)) where
  so : (x : Option Trace) → IfSome x (λ t. Decides (small_texts (files_now t)) (Err why)) → OpeningIsDecided x (Some (fault_from_open why))
  so None h = tt
  so (Some t) h = refused_opening (λ o. Unit {0}) (files_now t) why h (λ o out. tt)

pub opening_done : (told at : Option Trace) (o : Opened) (fault : Option Fault) → told ≡ at → IfSome told (λ t. Decides (small_texts (files_now t)) (Ok o)) → OpeningIsDecided at fault
opening_done told at o fault same d = subst (λ x. OpeningIsDecided x fault) same (so told d) where
  so : (x : Option Trace) → IfSome x (λ t. Decides (small_texts (files_now t)) (Ok o)) → OpeningIsDecided x fault
  so None h = tt
  so (Some t) h = record { none = λ w. absurd (h.none w); other = λ n w. absurd (h.other n w); linear = λ w. absurd (h.linear w); opened = λ p w. tt }

-- the cause of a refusal decides that it comes
because_decides : (rose : Type 0) (t : Trace) (why : OpenFault) → OpensBecause rose (Some t) why → Decides (small_texts (files_now t)) (Err why)
because_decides rose t opening.NotRepo none =
    let s = small_texts (files_now t) in
    record {
      opened = λ o w. absurd (is_some s w.format.0 w.format.1 none);
      none = λ w. inl refl;
      other = λ n w. absurd (is_some s w.0 w.1 none);
      linear = λ w. absurd (is_some s w.1.0 w.1.1 none);
    }
because_decides rose t (opening.OtherFormat n) (text, there, is) = decides_other (small_texts (files_now t)) text n (record { is = there; only = λ g w. one_format text (Other n) g is w })
because_decides rose t opening.Linear (layout, (text, there, is), one) = decides_linear (small_texts (files_now t)) text layout one (record { is = there; only = λ g w. one_format text (Known layout) g is w })
because_decides rose t (opening.Small fault) (text, there, inl none) = decides_unread (small_texts (files_now t)) text fault (record { is = there; only = none.0 })
because_decides rose t (opening.Small fault) (text, there, inr (layout, is, packs, behind)) =
    let s = small_texts (files_now t) in
    decides_refused s text layout fault packs (record { is = there; only = λ g w. one_format text (Known layout) g is w }) (λ o same opens. refused_behind s o layout fault (sym same) opens behind)
because_decides rose t (opening.DiskFault place) failed = record { opened = λ o w. tt; none = λ w. inr tt; other = λ n w. inr tt; linear = λ w. inr tt }
because_decides rose t opening.Memory free = record { opened = λ o w. tt; none = λ w. inr tt; other = λ n w. inr tt; linear = λ w. inr tt }

pub opening_because : (rose : Type 0) (told : Option Trace) (why : OpenFault) → OpensBecause rose told why → OpeningIsDecided told (Some (fault_from_open why))
opening_because rose told why because = opening_refusal told told why (fault_from_open why) refl refl (so told because) where
  so : (x : Option Trace) → OpensBecause rose x why → IfSome x (λ t. Decides (small_texts (files_now t)) (Err why))
  so None b = tt
  so (Some t) b = because_decides rose t why b

known_same : (a b : Layout) → Known a ≡ Known b → a ≡ b
known_same a b e = cc

-- files that open are not those of one folder
not_linear : (s : SmallTexts) (o : Opened) → IsOpened s o → (layout : Layout) → SaysFormat s (Known layout) → layout.folders ≡ OneFolder → ⊥
not_linear s o opens layout says one =
    let same = known_same o.layout layout (says_one s (Known o.layout) (Known layout) opens.format says) in
    subst AreShards (ap (λ (l : Layout). l.folders) same ∙ one) opens.packs.sharded

-- files that open are refused for nothing
pub opening_as : (told : Option Trace) (o : Opened) (fault : Option Fault) → OpensAs told o → OpeningIsDecided told fault
opening_as None o fault opens = tt
opening_as (Some t) o fault opens =
    let s = small_texts (files_now t) in
    record {
      none = λ w. absurd (is_some s opens.format.0 opens.format.1 w);
      other = λ n w. absurd (let e = one_format w.0 (Known o.layout) (Other n) (formatted s o w.0 opens w.1) w.2 in cc);
      linear = λ w. absurd (not_linear s o opens w.0 w.1 w.2);
      opened = λ p w. tt;
    }

-- ---- a revision that was looked at

one_text : (printed : Printed) (bytes : AllBytes) (rev : ℕ) → HasOneText (TextOf printed bytes rev)
one_text (Tree show_ids path) bytes rev = tree_one bytes.revs rev path show_ids
one_text (Text path) bytes rev = file_one bytes.revs rev path
one_text Author bytes rev = authors_one bytes.props rev
one_text Date bytes rev = dates_one bytes.props rev
one_text Log bytes rev = logs_one bytes.props rev
one_text Info bytes rev = infos_one bytes.props rev
one_text Changed bytes rev = changed_one bytes.revs rev
one_text (History path) bytes rev = histories_one bytes.revs rev path

in_one : (look : RevisionLook) (o : Opened) (m : Files) → HasOneText (TextIn look o m)
in_one look o m = one_text look.printed (all_bytes o.layout m) (looked_revision look o)

-- the text is by what every opening says
pub same_text : (look : RevisionLook) (o p : Opened) (m : Files) (text : List ℕ) (end : End) → o.layout ≡ p.layout → o.youngest ≡ p.youngest → TextIn look p m text end → TextIn look o m text end
same_text look o p m text end shard youngest is =
    subst (λ (l : Layout). TextOf look.printed (all_bytes l m) (looked_revision look o) text end) (sym shard)
    (subst (λ (y : ℕ). TextOf look.printed (all_bytes p.layout m) (unwrap_or look.revision y) text end) (sym youngest) is)

lacks_or_has : (look : RevisionLook) (o p : Opened) (rev : ℕ) → LacksRevision look o rev → o.youngest ≡ p.youngest → looked_revision look p ≤ p.youngest → ⊥
lacks_or_has look o p rev lacks e there =
    let named : looked_revision look p ≡ rev = ap (λ (r : Option ℕ). unwrap_or r p.youngest) lacks.named in
    omega (arith, named, there, lacks.above, e)

-- the fault of a look is what it was refused for, or want of memory
pub look_or_memory : (path : Path) (why : LookFault) (fault : Fault) → IsFromLook path why fault → (fault ≡ fault_from_look path why) ⊎ (fault ≡ Memory)
look_or_memory path (refusal.NotFound names) fault h = h
look_or_memory path (refusal.NotDir names) fault h = h
look_or_memory path refusal.NotFile fault h = h
look_or_memory path (refusal.Wrong wrong) fault h = inl h

-- what is told is a failure of the outside
outside_agrees : (decided fault : Option Fault) (told : Fault) → fault ≡ Some told → IsOutside told → Agrees decided fault
outside_agrees decided fault told is out = subst (Agrees decided) (sym is) (inr out)

-- of a text that has one end at most
module _ (disk write : Type 0) (R : List ℕ → End → Type 0) (one : HasOneText R) (path : Path) (old new : Option (List ℕ)) where
  whole_agrees : (r : Result (Unit {0}) LookError) (fault : Option Fault) → Writes R old new r → IsFaultOf disk write path r fault → (text : List ℕ) → R text Whole → Agrees None fault
  whole_agrees (Ok done) fault w is text t = subst (Agrees None) (sym is) refl
  whole_agrees (Err (errors.Fault why)) fault w is text t = absurd (whole_or_refused R one text w.0 why t w.1)
  whole_agrees (Err errors.DiskFault) fault w (told, is, at, d, e) text t = outside_agrees None fault told is (subst IsOutside (sym at) tt)
  whole_agrees (Err errors.WriteFault) fault w (told, is, at, d, e) text t = outside_agrees None fault told is (subst IsOutside (sym at) tt)
  whole_agrees (Err errors.OutOfMemory) fault w (told, is, at, d, e) text t = outside_agrees None fault told is (subst IsOutside (sym at) tt)

  refused_agrees : (r : Result (Unit {0}) LookError) (fault : Option Fault) → Writes R old new r → IsFaultOf disk write path r fault → (text : List ℕ) (why : LookFault) → R text (Refused why) → Agrees (Some (fault_from_look path why)) fault
  refused_agrees (Ok done) fault w is text why t = absurd (whole_or_refused R one w.0 text why w.1 t)
  refused_agrees (Err (errors.Fault other)) fault w (told, is, from, d, e) text why t =
      let same = (refusals_same R one text w.0 why other t w.1).1 in
      let Want : Option Fault → Type 0 = Agrees (Some (fault_from_look path why)) in
      subst Want (sym is)
      (⊎_elim (λ k. subst Want (ap (λ (f : Fault). Some f) (sym k)) (inl (ap (λ (f : LookFault). Some (fault_from_look path f)) same)))
      (λ k. subst Want (ap (λ (f : Fault). Some f) (sym k)) (inr tt)) (look_or_memory path other told from))
  refused_agrees (Err errors.DiskFault) fault w (told, is, at, d, e) text why t = outside_agrees (Some (fault_from_look path why)) fault told is (subst IsOutside (sym at) tt)
  refused_agrees (Err errors.WriteFault) fault w (told, is, at, d, e) text why t = outside_agrees (Some (fault_from_look path why)) fault told is (subst IsOutside (sym at) tt)
  refused_agrees (Err errors.OutOfMemory) fault w (told, is, at, d, e) text why t = outside_agrees (Some (fault_from_look path why)) fault told is (subst IsOutside (sym at) tt)

revision_done : (disk : Type 0) (look : RevisionLook) (m : Files) (o p : Opened) (old new : SinkScene) (fault : Option Fault) → IsOpened (small_texts m) o → IsOpened (small_texts m) p → LooksInto disk (AtRevision look) o (Some m) old new fault
    → DecidesRevision look p m fault
revision_done disk look m o p old new fault opened w (inl (rev, lacks, is, kept)) = subst (DecidesRevision look p m) (sym is) (record {
  lacking = λ other also.
      let named = same_Some other rev (sym also.named ∙ lacks.named) in
      inl (λ i. Some (Request (NoRev (named i) (one_youngest (small_texts m) p o w opened i))));
  whole = λ text there t. absurd (lacks_or_has look o p rev lacks (one_youngest (small_texts m) o p opened w) there);
  refused = λ text why there t. absurd (lacks_or_has look o p rev lacks (one_youngest (small_texts m) o p opened w) there);
})
revision_done disk look m o p old new fault opened w (inr looked) = record {
  lacking = λ rev lacks. absurd (lacks_or_has look p o rev lacks (one_youngest (small_texts m) p o w opened) looked.there);
  whole = λ text there t. whole_agrees disk (Rose old.faults new.faults) (TextIn look o m) (in_one look o m) (printed_path look.printed) old.written new.written looked.result fault looked.writes looked.fault_is text (same_text look o p m text Whole (one_layout (small_texts m) o p opened w) (one_youngest (small_texts m) o p opened w) t);
  refused = λ text why there t. refused_agrees disk (Rose old.faults new.faults) (TextIn look o m) (in_one look o m) (printed_path look.printed) old.written new.written looked.result fault looked.writes looked.fault_is text why (same_text look o p m text (Refused why) (one_layout (small_texts m) o p opened w) (one_youngest (small_texts m) o p opened w) t);
}

-- ---- a repository that was dumped

pub dump_one : (o : Opened) (m : Files) → HasOneText (DumpIn o m)
dump_one o m = dumps_one (rev_bytes o.layout m) (props_bytes o.layout m) o.uuid o.youngest

-- the text is by what every opening says
pub same_dump : (o p : Opened) (m : Files) (text : List ℕ) (end : End) → IsOpened (small_texts m) o → IsOpened (small_texts m) p → DumpIn p m text end → DumpIn o m text end
same_dump o p m text end opened also is =
    let s = small_texts m in
    subst (λ (l : Layout). DumpText (rev_bytes l m) (only (props_bytes l m)) o.uuid o.youngest text end) (sym (one_layout s o p opened also))
    (subst (λ (u : List ℕ). DumpText (rev_bytes p.layout m) (only (props_bytes p.layout m)) u o.youngest text end) (sym (same_uuid s.uuid o.uuid p.uuid opened.behind.uuid also.behind.uuid))
    (subst (λ (y : ℕ). DumpText (rev_bytes p.layout m) (only (props_bytes p.layout m)) p.uuid y text end) (sym (one_youngest s o p opened also)) is))

dump_done : (disk : Type 0) (m : Files) (o p : Opened) (old new : SinkScene) (fault : Option Fault) → IsOpened (small_texts m) o → IsOpened (small_texts m) p → LooksInto disk Dump o (Some m) old new fault → DecidesDump p m fault
dump_done disk m o p old new fault opened w dumped = record {
  whole = λ text t. whole_agrees disk (Rose old.faults new.faults) (DumpIn o m) (dump_one o m) [] old.written new.written dumped.result fault dumped.writes dumped.fault_is text (same_dump o p m text Whole opened w t);
  refused = λ text why t. refused_agrees disk (Rose old.faults new.faults) (DumpIn o m) (dump_one o m) [] old.written new.written dumped.result fault dumped.writes dumped.fault_is text why (same_dump o p m text (Refused why) opened w t);
}

-- ---- a repository that was checked

-- the text is by what every opening says, and so is the history
pub same_verify : (o p : Opened) (m : Files) (text : List ℕ) (end : End) → IsOpened (small_texts m) o → IsOpened (small_texts m) p → VerifyIn p m text end → VerifyIn o m text end
same_verify o p m text end opened also is =
    let s = small_texts m in
    subst (λ (l : Layout). VerifyText (rev_bytes l m) (props_bytes l m) o.youngest text end) (sym (one_layout s o p opened also))
    (subst (λ (y : ℕ). VerifyText (rev_bytes p.layout m) (props_bytes p.layout m) y text end) (sym (one_youngest s o p opened also)) is)

same_sound : (o p : Opened) (m : Files) → IsOpened (small_texts m) o → IsOpened (small_texts m) p → AreSound p m → AreSound o m
same_sound o p m opened also sound =
    let s = small_texts m in
    subst (λ (l : Layout). ShowsOpenHistory (rev_bytes l m) (props_bytes l m) o.youngest) (sym (one_layout s o p opened also))
    (subst (λ (y : ℕ). ShowsOpenHistory (rev_bytes p.layout m) (props_bytes p.layout m) y) (sym (one_youngest s o p opened also)) sound)

outside_tells : (o : Opened) (m : Files) (text : List ℕ) (fault : Option Fault) (told : Fault) → fault ≡ Some told → IsOutside told → TellsDamage o m text fault
outside_tells o m text fault told is out = subst (TellsDamage o m text) (sym is) (inr out)

module _ (disk write : Type 0) (m : Files) (o p : Opened) (opened : IsOpened (small_texts m) o) (also : IsOpened (small_texts m) p) (old new : Option (List ℕ)) where
  sound_agrees : (r : Result (Unit {0}) LookError) (fault : Option Fault) → Writes (VerifyIn o m) old new r → IsFaultOf disk write [] r fault → AreSound p m → Agrees None fault
  sound_agrees (Ok done) fault w is sound = subst (Agrees None) (sym is) refl
  sound_agrees (Err (errors.Fault why)) fault w is sound = absurd (nothing_refused (rev_bytes o.layout m) (props_bytes o.layout m) o.youngest w.0 why (same_sound o p m opened also sound) w.1)
  sound_agrees (Err errors.DiskFault) fault w (told, is, at, d, e) sound = outside_agrees None fault told is (subst IsOutside (sym at) tt)
  sound_agrees (Err errors.WriteFault) fault w (told, is, at, d, e) sound = outside_agrees None fault told is (subst IsOutside (sym at) tt)
  sound_agrees (Err errors.OutOfMemory) fault w (told, is, at, d, e) sound = outside_agrees None fault told is (subst IsOutside (sym at) tt)

  damage_told : (r : Result (Unit {0}) LookError) (fault : Option Fault) → Writes (VerifyIn o m) old new r → IsFaultOf disk write [] r fault → (text : List ℕ) (why : LookFault) → VerifyIn p m text (Refused why) → TellsDamage p m text fault
  damage_told (Ok done) fault w is text why t =
      absurd (nothing_refused (rev_bytes o.layout m) (props_bytes o.layout m) o.youngest text why w.1.1 (same_verify o p m text (Refused why) opened also t))
  damage_told (Err (errors.Fault other)) fault w (told, is, from, d, e) text why t =
      let here = same_verify p o m w.0 (Refused other) also opened w.1 in
      let same = one_refused (rev_bytes p.layout m) (props_bytes p.layout m) p.youngest w.0 text other why here t in
      let now = subst (λ (x : List ℕ). VerifyIn p m x (Refused other)) same here in
      subst (TellsDamage p m text) (sym is)
      (⊎_elim (λ k. inl (other, now, k)) (λ k. inr (subst IsOutside (sym k) tt)) (look_or_memory [] other told from))
  damage_told (Err errors.DiskFault) fault w (told, is, at, d, e) text why t = outside_tells p m text fault told is (subst IsOutside (sym at) tt)
  damage_told (Err errors.WriteFault) fault w (told, is, at, d, e) text why t = outside_tells p m text fault told is (subst IsOutside (sym at) tt)
  damage_told (Err errors.OutOfMemory) fault w (told, is, at, d, e) text why t = outside_tells p m text fault told is (subst IsOutside (sym at) tt)

verified_done : (disk : Type 0) (m : Files) (o p : Opened) (old new : SinkScene) (fault : Option Fault) → IsOpened (small_texts m) o → IsOpened (small_texts m) p → LooksInto disk Verify o (Some m) old new fault → DecidesVerify p m fault
verified_done disk m o p old new fault opened w verified = record {
  sound = λ sound. sound_agrees disk (Rose old.faults new.faults) m o p opened w old.written new.written verified.result fault verified.writes verified.fault_is sound;
  wrong = λ text why t. damage_told disk (Rose old.faults new.faults) m o p opened w old.written new.written verified.result fault verified.writes verified.fault_is text why t;
}

-- ---- a look at an opened repository

line_agrees : (line : List ℕ) (old new : SinkScene) (fault : Option Fault) → PrintsLine line old new fault → Agrees None fault
line_agrees line old new fault (inl (is, adds)) = subst (Agrees None) (sym is) refl
line_agrees line old new fault (inr (is, rose, part)) = subst (Agrees None) (sym is) (inr tt)

opened_done : (disk : Type 0) (look : Look) (m : Files) (o p : Opened) (old new : SinkScene) (fault : Option Fault) → IsOpened (small_texts m) o → IsOpened (small_texts m) p → LooksInto disk look o (Some m) old new fault → DecidesOpened look p m fault
opened_done disk Youngest m o p old new fault opened w into = line_agrees (revision_line o.youngest) old new fault into
opened_done disk Uuid m o p old new fault opened w into = line_agrees (uuid_line o.uuid) old new fault into
opened_done disk Dump m o p old new fault opened w into = dump_done disk m o p old new fault opened w into
opened_done disk Verify m o p old new fault opened w into = verified_done disk m o p old new fault opened w into
opened_done disk (AtRevision look) m o p old new fault opened w into = revision_done disk look m o p old new fault opened w into

pub look_decided : (disk : Type 0) (look : Look) (told at : Option Trace) (o : Opened) (old new : SinkScene) (fault : Option Fault) → told ≡ at → IfSome told (λ t. IsOpened (small_texts (files_now t)) o)
    → IfSome told (λ t. Decides (small_texts (files_now t)) (Ok o)) → LooksInto disk look o (option_map files_now told) old new fault → LookIsDecided look at fault
look_decided disk look told at o old new fault same opened d into = subst (λ x. LookIsDecided look x fault) same (so told opened d into) where
  so : (x : Option Trace) → IfSome x (λ t. IsOpened (small_texts (files_now t)) o) → IfSome x (λ t. Decides (small_texts (files_now t)) (Ok o)) → LooksInto disk look o (option_map files_now x) old new fault → LookIsDecided look x fault
  so None is h into = tt
  so (Some t) is h into = record {
    none = λ w. absurd (h.none w);
    other = λ n w. absurd (h.other n w);
    linear = λ w. absurd (h.linear w);
    opened = λ p w. opened_done disk look (files_now t) o p old new fault is w into;
  }

-- want of memory before a repository is opened
pub unopened : (told : Option Trace) → DoesNotOpen told opening.Memory
unopened None = tt
unopened (Some t) = λ o is. tt

-- and what an opening that was refused tells
pub does_not_open : (told : Option Trace) (why : OpenFault) → IfSome told (λ t. Decides (small_texts (files_now t)) (Err why)) → DoesNotOpen told why
does_not_open None why d = tt
does_not_open (Some t) why d = λ o is. d.opened o is
