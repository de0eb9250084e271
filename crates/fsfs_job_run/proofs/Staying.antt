-- What the pass knows behind calls that add nothing.
use Rattle.std.proofs.Common.{◌≡◌, ◌+◌, ℕ, List, [], ◌∷◌, ◌++◌, length, false, refl, sym, ap, subst, ◌∙◌, append_assoc, append-nil, arith}
use Rattle.std.specs.Prelude.{None}
use Rattle.fsfs_base.specs.declared.places.place.DiskPlace.{DiskPlace}
use Rattle.fsfs_machine.specs.declared.machine.Recorded.{Recorded}
use Rattle.fsfs_machine.specs.declared.machine.Step.{Step}
use Rattle.fsfs_machine.specs.declared.machine.Txn.{Txn}
use Rattle.fsfs_machine.specs.Machine.{World, revisions}
use Rattle.fsfs_machine.proofs.Growing.{revisions_length}
use Rattle.fsfs_tree.specs.Dated.{last_of}
use Rattle.fsfs_turn.specs.Views.{View, Begins, Looked}
use Rattle.fsfs_turn.proofs.Alone.{same_by_length, no_shorter}
use Rattle.fsfs_repo.specs.BeginPurged.{HasPurged, HasNotPurged}
use Rattle.fsfs_turn.specs.Alone.{BringsNoDoubt}
use Rattle.fsfs_repo.specs.Replies.{Committed, Moved as CommitMoved}
use Rattle.fsfs_turn.proofs.Doubts.{same_faults}
use Rattle.fsfs_jobs.specs.declared.answer.JobAnswer.{JobAnswer}
use Rattle.fsfs_jobs.specs.declared.answer.JobAnswer.TheVariants as answers
use Rattle.fsfs_job_run.specs.Serial.Jobs.{AddsBy, own_of, tells_doubt, Leaves}
use Rattle.fsfs_job_run.specs.Running.{Stays, HasLooked}

-- Of the revisions that a pass has seen none came since the opening but its own: what a pass knows that is alone.
abbrev pub IsCounted : View → Type 0
IsCounted v = length v.seen ≡ v.opened + length v.pass.mine

-- nothing was added where the pass added nothing
pub seen_same : (v u : View) → IsCounted v → Begins u.seen v.seen → IsCounted u → u.opened ≡ v.opened → u.pass.mine ≡ v.pass.mine → u.seen ≡ v.seen
seen_same v u before b after opened mine = same_by_length v.seen u.seen b (let m : length u.pass.mine ≡ length v.pass.mine = ap (λ (l : List ℕ). length l) mine in omega (arith, before, after, opened, m))

-- what came between two histories of one length has that length
pub between : (h m g : List Recorded) → Begins m h → Begins g m → length g ≡ length h → length m ≡ length h
between h m g a b same = let x = no_shorter h m a in let y = no_shorter m g b in omega (arith, x, y, same)

-- ---- one after another

pub stays_here : (v : View) → v.section ≡ None → Stays v v
stays_here v none = record { seen = refl; since = refl; opened = refl; own = refl; number = refl; outside = none; more = []; given = refl }

pub stays_on : (v m u : View) → Stays v m → Stays m u → Stays v u
stays_on v m u a b = record {
  seen = b.seen ∙ a.seen;
  since = b.since ∙ a.since;
  opened = b.opened ∙ a.opened;
  own = b.own ∙ a.own;
  number = b.number ∙ a.number;
  outside = b.outside;
  more = b.more ++ a.more;
  given = b.given ∙ ap (λ (l : List ℕ). b.more ++ l) a.given ∙ sym (append_assoc b.more a.more v.given);
}

added_on : (answer : JobAnswer) (h k now : List Recorded) → k ≡ h → AddsBy answer k now → AddsBy answer h now
added_on answer h k now same adds = subst (λ (l : List Recorded). AddsBy answer l now) same adds

added_still : (answer : JobAnswer) (h k now : List Recorded) → now ≡ k → AddsBy answer h k → AddsBy answer h now
added_still answer h k now same adds = subst (λ (l : List Recorded). AddsBy answer h l) (sym same) adds

pub stays_then : (answer : JobAnswer) (v m u : View) → Stays v m → BringsNoDoubt v m → Leaves answer m u → Leaves answer v u
stays_then answer v m u a brings b = record {
  adds = added_on answer v.seen m.seen u.seen a.seen b.adds;
  since = b.since ∙ a.since;
  opened = b.opened ∙ a.opened;
  own = b.own ∙ ap (λ (l : List ℕ). l ++ own_of answer) a.own;
  number = b.number ∙ a.number;
  outside = b.outside;
  more = b.more ++ a.more;
  given = b.given ∙ ap (λ (l : List ℕ). b.more ++ l) a.given ∙ sym (append_assoc b.more a.more v.given);
  doubtless = λ none few. b.doubtless none (brings few);
}

pub then_stays : (answer : JobAnswer) (v m u : View) → Leaves answer v m → Stays m u → BringsNoDoubt m u → Leaves answer v u
then_stays answer v m u a b brings = record {
  adds = added_still answer v.seen m.seen u.seen b.seen a.adds;
  since = b.since ∙ a.since;
  opened = b.opened ∙ a.opened;
  own = b.own ∙ a.own;
  number = b.number ∙ a.number;
  outside = b.outside;
  more = b.more ++ a.more;
  given = b.given ∙ ap (λ (l : List ℕ). b.more ++ l) a.given ∙ sym (append_assoc b.more a.more v.given);
  doubtless = λ none few. brings (a.doubtless none few);
}

-- an answer that tells no revision
abbrev pub IsBare : JobAnswer → Type 0
IsBare (answers.Committed rev) = ⊥
IsBare (answers.Read text) = Unit {0}
IsBare (answers.Conflict head path) = Unit {0}
IsBare (answers.Stopped line fault) = Unit {0}

pub bare_leaves : (answer : JobAnswer) (v u : View) → IsBare answer → Stays v u → (tells_doubt answer ≡ false → BringsNoDoubt v u) → Leaves answer v u
bare_leaves (answers.Committed rev) v u bare s brings = absurd bare
bare_leaves (answers.Read text) v u bare s brings = record { adds = s.seen; since = s.since; opened = s.opened; own = s.own ∙ sym (append-nil v.pass.mine); number = s.number; outside = s.outside; more = s.more; given = s.given; doubtless = brings }
bare_leaves (answers.Conflict head path) v u bare s brings = record { adds = s.seen; since = s.since; opened = s.opened; own = s.own ∙ sym (append-nil v.pass.mine); number = s.number; outside = s.outside; more = s.more; given = s.given; doubtless = brings }
bare_leaves (answers.Stopped line fault) v u bare s brings = record { adds = s.seen; since = s.since; opened = s.opened; own = s.own ∙ sym (append-nil v.pass.mine); number = s.number; outside = s.outside; more = s.more; given = s.given; doubtless = brings }

-- ---- by each call

-- by a look; and what it told
pub look_stays : (young : ℕ) (v u : View) → v.section ≡ None → Looked young v u → length u.seen ≡ young + 1 → HasLooked v u × (young ≡ last_of (revisions v.seen))
look_stays young v u none l all = (
  record {
    stays = record {
      seen = same;
      since = ap {A = View} (λ z. z.since) l.is;
      opened = ap {A = View} (λ z. z.opened) l.is;
      own = ap {A = View} (λ z. z.pass.mine) l.is;
      number = ap {A = View} (λ z. z.number) l.is;
      outside = ap {A = View} (λ z. z.section) l.is ∙ none;
      more = [];
      given = ap {A = View} (λ z. z.given) l.is;
    };
    doubtless = same_faults v u (ap {A = View} (λ z. z.pass.faults) l.is);
    left = ap {A = View} (λ z. z.left) l.is;
    least = least ∙ last;
  },
  last,
)
  where
    same : u.seen ≡ v.seen
    same = ap {A = View} (λ z. z.seen) l.is

    least : u.pass.least ≡ young
    least = ap {A = View} (λ z. z.pass.least) l.is

    last : young ≡ last_of (revisions v.seen)
    last = let long : length u.seen ≡ length v.seen = ap (λ (h : List Recorded). length h) same in omega (arith, revisions_length v.seen, long, all)

pub purge_stays : (lay : World → World) (step : Step) (v u : View) → HasPurged lay step v u → IsCounted v → IsCounted u → v.section ≡ None → Stays v u
purge_stays lay step v u p before after none = record {
  seen = seen_same v u before p.grows after (ap {A = View} (λ z. z.opened) p.is) (ap {A = View} (λ z. z.pass.mine) p.is);
  since = ap {A = View} (λ z. z.since) p.is;
  opened = ap {A = View} (λ z. z.opened) p.is;
  own = ap {A = View} (λ z. z.pass.mine) p.is;
  number = ap {A = View} (λ z. z.number) p.is;
  outside = ap {A = View} (λ z. z.section) p.is ∙ none;
  more = [];
  given = ap {A = View} (λ z. z.given) p.is;
}

pub no_purge_stays : (place : DiskPlace) (lay : World → World) (step : Step) (v u : View) → HasNotPurged place lay step v u → IsCounted v → IsCounted u → v.section ≡ None → Stays v u
no_purge_stays place lay step v u p before after none = record {
  seen = seen_same v u before p.grows after (ap {A = View} (λ z. z.opened) p.is) (ap {A = View} (λ z. z.pass.mine) p.is);
  since = ap {A = View} (λ z. z.since) p.is;
  opened = ap {A = View} (λ z. z.opened) p.is;
  own = ap {A = View} (λ z. z.pass.mine) p.is;
  number = ap {A = View} (λ z. z.number) p.is;
  outside = ap {A = View} (λ z. z.section) p.is ∙ none;
  more = [];
  given = ap {A = View} (λ z. z.given) p.is;
}

-- a commit that added nothing
pub moved_stays : (v u : View) → CommitMoved v u → u.seen ≡ v.seen → v.section ≡ None → Stays v u
moved_stays v u m same none = record {
  seen = same;
  since = m.drifted.since;
  opened = m.drifted.opened;
  own = m.drifted.mine;
  number = m.drifted.number;
  outside = m.section ∙ none;
  more = [];
  given = m.drifted.given;
}

-- one that added the revision
pub commit_leaves : (rev : ℕ) (properties : List (List ℕ × List ℕ)) (v u : View) (x y : Txn) (c : Committed rev properties v u x y) → c.before ≡ v.seen → u.number ≡ v.number → Leaves (answers.Committed rev) v u
commit_leaves rev properties v u x y c same number = record {
  adds = (c.next, c.is ∙ ap (λ (h : List Recorded). h ++ c.next ∷ []) same, c.number ∙ ap (λ (h : List Recorded). length h) same);
  since = c.since;
  opened = c.opened;
  own = c.mine;
  number = number;
  outside = c.outside;
  more = [];
  given = c.given;
  doubtless = λ none. c.doubtless;
}
