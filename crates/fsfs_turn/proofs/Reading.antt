-- Reading alone, one read behind another.
use Rattle.std.proofs.Common.{◌≡◌, List, ◌++◌, ap, ◌∙◌, arith, append_assoc}
use Rattle.fsfs_machine.specs.declared.machine.Recorded.{Recorded}
use Rattle.fsfs_turn.specs.Views.{View, Begins}
use Rattle.fsfs_turn.specs.Courses.{Course, End, More, ReadOnly}

pub begins_on : (a b c : List Recorded) → Begins b a → Begins c b → Begins c a
begins_on a b c f g = (f.0 ++ g.0, g.1 ∙ ap (λ l. l ++ g.0) f.1 ∙ append_assoc a f.0 g.0)

pub course_on : (v m u : View) → Course v m → Course m u → Course v u
course_on v m u (End _) more = more
course_on v m u (More txns step outcome _ k _ turned rest) more = More txns step outcome v k u turned (course_on k m u rest more)

pub reads_on : (v m u : View) → ReadOnly v m → ReadOnly m u → ReadOnly v u
reads_on v m u a b = record {
  is = b.is ∙ ap {A = View} (λ z. record z { pass = record z.pass { seen = u.pass.seen; faults = u.pass.faults; floor = u.pass.floor }; seen = u.seen; firm = u.firm }) a.is;
  grows = begins_on v.seen m.seen u.seen a.grows b.grows;
  firm = λ f e. b.firm f (a.firm f e);
  doubtless = λ few. b.doubtless (a.doubtless few);
  shown = b.shown;
  within = λ sure le.
      let least : m.pass.least ≡ v.pass.least = ap {A = View} (λ z. z.pass.least) a.is in
      let seen = b.within (ap {A = View} (λ z. z.sure) a.is ∙ sure) (omega (arith, least, a.within sure le)) in
      omega (arith, least, seen);
  course = course_on v m u a.course b.course;
}
