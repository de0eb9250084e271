-- A step that tells the pass the history as it is, over an owned store.
use Rattle.std.proofs.Common.{◌≡◌, ◌+◌, ℕ, List, [], ◌++◌, length, refl, sym, ap, ◌∙◌, arith, take, drop}
use Rattle.std.specs.Prelude.{Option, Some}
use Rattle.std.proofs.lemmas.List.{take_all}
use Rattle.fsfs_layout.specs.declared.layout.Layout.{Layout}
use Rattle.fsfs_disk.specs.Trace.{Trace}
use Rattle.fsfs_machine.specs.declared.machine.Drawn.{Drawn}
use Rattle.fsfs_machine.specs.declared.machine.Txn.{Txn}
use Rattle.fsfs_machine.specs.declared.machine.Pass.{Pass}
use Rattle.fsfs_base.specs.declared.places.place.DiskPlace.{DiskPlace}
use Rattle.fsfs_machine.specs.declared.machine.Outcome.{Outcome}
use Rattle.fsfs_machine.specs.declared.machine.Section.{Section}
use Rattle.fsfs_machine.specs.declared.machine.Step.{Step}
use Rattle.fsfs_machine.specs.Machine.{World, Happens, did, at_place}
use Rattle.fsfs_machine.specs.Kept.{Kept, most_floor, may_rise}
use Rattle.fsfs_machine.proofs.Answering.{seen_of}
use Rattle.fsfs_machine.proofs.Steps.{step_keeps}
use Rattle.fsfs_images.specs.Shown.{IsTraceOf}
use Rattle.fsfs_turn.specs.Past.{doubt, Safe}
use Rattle.fsfs_turn.specs.Views.{View, Sees, with_txns}
use Rattle.fsfs_turn.specs.Learning.{LearnedFirm, Learned}
use Rattle.fsfs_turn.specs.Standing.{no_others, IsStore}
use Rattle.fsfs_turn.proofs.TurnEnds.{pass_leaves, IsAfter}
use Rattle.fsfs_turn.proofs.Stepping.{kept_bare, at_itself, take_drop}

-- the store after it: pass p knows more, and labels and transactions may be others
abbrev pub told_world : World → ℕ → (Pass → Pass) → List ℕ → List Drawn → List Txn → List ℕ → World
told_world w p f labels named txns spent = record w { labels = labels; named = named; txns = txns; spent = spent; passes = at_place w.passes p f }

abbrev told_view : World → View → (Pass → Pass) → Option ℕ → View
told_view w v f firm = record v { pass = f v.pass; seen = w.history; firm = firm }

module _ (layout : Layout) (low young : ℕ) (stuck : Option DiskPlace) (old : Trace) (w : World) (v : View) (store : IsStore layout low young stuck old w) (sees : Sees w v) where
  pub tells_firm : (lay : World → World) (step : Step) (outcome : Outcome) (tell : ℕ → Pass → Pass) (firm : Option ℕ) → ((s : Section) (f : ℕ) → v.section ≡ Some s → firm ≡ Some f → w.floor ≡ f) → (labels : List ℕ) (named : List Drawn) (txns : List Txn) (spent : List ℕ)
      → Kept (lay w) → Happens (lay w) step (did (told_world w v.number (tell (length w.history)) labels named txns spent) outcome)
      → (tell (length w.history) v.pass).least ≡ v.pass.least → (tell (length w.history) v.pass).seen ≡ length w.history
      → (new : Trace) → IsTraceOf layout no_others new.first new.operations w.disk → Safe layout v.since new v.opened w.history (doubt w.lock)
      → IsAfter layout low young stuck new w v (λ u. LearnedFirm lay step outcome tell firm v u)
  tells_firm lay step outcome tell firm firm_is labels named txns spent kept_lay happens least_is seen_is new trace safe = record {
    world = world;
    view = told_view w v (tell (length w.history)) firm;
    store = record { trace = trace; size = store.size; whole = store.whole; kept = kept; shown = store.shown; coming = store.coming; low_is = store.low_is; young_is = store.young_is; stuck_is = store.stuck_is };
    sees = after;
    turned = record {
      turned = record { world = w; kept = kept_lay; sees = sees; did = did world outcome; happens = happens; answers = refl; after = kept; leaves = after };
      is = refl;
      grows = (drop v.pass.seen w.history, take_drop v.pass.seen w.history ∙ ap (λ l. l ++ drop v.pass.seen w.history) (sym sees.seen));
      within = λ sure. let up : w.young + 1 ≡ length w.history = store.kept.young sees.up in omega (arith, up, sees.sure sure);
      all = (seen_of (length w.history) w.low (most_floor (may_rise w.lock) w.size w.floor) w.passes v.number v.pass store.kept.seen sees.pass).least;
      shown = store.shown;
    };
    all = refl;
    safe = safe;
    leaves = pass_leaves w world v.number (tell (length w.history)) refl refl refl refl refl refl refl refl;
    layout_is = refl;
    since_is = refl;
    opened_is = refl;
    number_is = refl;
    left_is = refl;
  }
    where
      world : World
      world = told_world w v.number (tell (length w.history)) labels named txns spent

      kept : Kept (with_txns [] world)
      kept = kept_bare world (step_keeps (lay w) step (did world outcome) happens kept_lay).kept

      after : Sees world (told_view w v (tell (length w.history)) firm)
      after = record {
        pass = at_itself w.passes v.number (tell (length w.history)) v.pass sees.pass;
        seen = sym (ap (λ n. take n w.history) seen_is ∙ take_all (length w.history) w.history (omega arith));
        section = sees.section;
        up = sees.up;
        sure = λ e. sees.sure e ∙ sym least_is;
        whole = λ y e. refl;
        given = sees.given;
        opened = sees.opened;
        shown = store.shown;
        names = sees.names;
        firm = firm_is;
      }

  -- one that tells nothing of the firm floor
  pub tells : (lay : World → World) (step : Step) (outcome : Outcome) (tell : ℕ → Pass → Pass) (labels : List ℕ) (named : List Drawn) (txns : List Txn) (spent : List ℕ)
      → Kept (lay w) → Happens (lay w) step (did (told_world w v.number (tell (length w.history)) labels named txns spent) outcome)
      → (tell (length w.history) v.pass).least ≡ v.pass.least → (tell (length w.history) v.pass).seen ≡ length w.history
      → (new : Trace) → IsTraceOf layout no_others new.first new.operations w.disk → Safe layout v.since new v.opened w.history (doubt w.lock)
      → IsAfter layout low young stuck new w v (λ u. Learned lay step outcome tell v u)
  tells lay step outcome tell = tells_firm lay step outcome tell v.firm sees.firm
