-- The job's place goes from one state to another, or stays.
use Rattle.std.proofs.Common.{◌<◌, length, length-set, refl, ap, sym, subst, ◌∙◌, arith}
use Rattle.std.specs.Vec.{with_item}
use Rattle.std.proofs.lemmas.Option.{slice_get_read}
use Rattle.fts_desk.specs.JobLists.{JobList, places_at}
use Rattle.fts_desk.specs.JobStates.{AreJobStates}
use Rattle.fts_desk.specs.declared.job_states.JobStates.TheInside.{Inside}
use Rattle.fts_desk.proofs.JobSets.{MayComeIn, may_take, may_put, places_moved, rooms_moved, places_same}
use Rattle.fts_desk.proofs.job_states.JobStates.set.Goals.{After-take_place, then-was-is, else-was-is}
use Rattle.fts_desk.proofs.job_states.JobStates.set.Goals as goal

-- the place is taken out where it is
pub take_place-requires-clause-there : goal.take_place-requires-clause-there
take_place-requires-clause-there c =
    let items = c.self.inside.jobs.items in
    let inside : c.args.place < length items = omega (arith, c.requires.inside, ap (λ (list : JobList). length list.jobs) c.self.view_is) in
    let there = slice_get_read items (length items) c.args.place c.index.result.now refl inside c.index.ensures in
    may_take items c.args.place c.index.result.now c.args.now c.rank-was.result c.rank-is.result c.self.inside.room there c.rank-was.ensures.rank
    c.rank-is.ensures.rank c.rank-was.ensures.inside c.rank-is.ensures.inside c.if-was-is.true c.self.inside.by_rank c.self.invariant.places
    c.self.invariant.rooms c.self.invariant.few

-- and then may come in among those of the other state
may_come_in : (c : After-take_place) → MayComeIn c.args.place (places_at c.take_place.new.by_rank c.rank-is.result)
may_come_in c =
    let items = c.self.inside.jobs.items in
    let inside : c.args.place < length items = omega (arith, c.requires.inside, ap (λ (list : JobList). length list.jobs) c.self.view_is) in
    may_put items c.args.place c.index.result.now c.args.now c.rank-was.result c.rank-is.result c.self.inside.room
    (slice_get_read items (length items) c.args.place c.index.result.now refl inside c.index.ensures) c.rank-was.ensures.rank c.rank-is.ensures.rank
    c.rank-was.ensures.inside c.rank-is.ensures.inside c.if-was-is.true c.self.inside.by_rank c.self.invariant.places c.self.invariant.rooms
    c.self.invariant.few c.take_place.new.by_rank c.take_place.ensures.here c.take_place.ensures.others

pub put_place-requires-clause-room : goal.put_place-requires-clause-room
put_place-requires-clause-room c = (may_come_in (goal.at.put_place-requires-clause-room c).After-take_place).room

pub put_place-requires-clause-absent : goal.put_place-requires-clause-absent
put_place-requires-clause-absent c = (may_come_in (goal.at.put_place-requires-clause-absent c).After-take_place).absent

pub invariant_of-self : goal.invariant_of-self
invariant_of-self c =
    let items = c.self.inside.jobs.items in
    let inside : c.args.place < length items = omega (arith, c.requires.inside, ap (λ (list : JobList). length list.jobs) c.self.view_is) in
    let there = slice_get_read items (length items) c.args.place c.index.result.now refl inside c.index.ensures in
    elim c.if-was-is.branch [
      | then-was-is w ↦ subst (λ (own : Inside). AreJobStates (record { jobs = with_item own.jobs c.args.place c.args.now; by_rank = own.by_rank; room = own.room }))
          (sym w.self-inside-is) (record {
            places = places_moved items c.args.place c.index.result.now c.args.now c.rank-was.result c.rank-is.result c.self.inside.room there c.rank-was.ensures.rank
                c.rank-is.ensures.rank c.rank-was.ensures.inside c.rank-is.ensures.inside w.if-was-is.true c.self.inside.by_rank c.self.invariant.places
                c.self.invariant.rooms c.self.invariant.few
                w.take_place.new.by_rank w.take_place.ensures.here w.take_place.ensures.others w.put_place.new.by_rank w.put_place.ensures.here
                w.put_place.ensures.others;
            rooms = rooms_moved items c.args.place c.index.result.now c.args.now c.rank-was.result c.rank-is.result c.self.inside.room there c.rank-was.ensures.rank
                c.rank-is.ensures.rank c.rank-was.ensures.inside c.rank-is.ensures.inside w.if-was-is.true c.self.inside.by_rank c.self.invariant.places
                c.self.invariant.rooms c.self.invariant.few
                w.take_place.new.by_rank w.take_place.ensures.here w.take_place.ensures.others w.put_place.new.by_rank w.put_place.ensures.here
                w.put_place.ensures.others;
            few = omega (arith, c.self.invariant.few, length-set items c.args.place c.args.now);
            memory = c.self.invariant.memory;
            small = c.self.invariant.small;
          })
      | else-was-is w ↦ subst (λ (own : Inside). AreJobStates (record { jobs = with_item own.jobs c.args.place c.args.now; by_rank = own.by_rank; room = own.room }))
          (sym w.self-inside-is) (record {
            places = places_same items c.args.place c.index.result.now c.args.now c.self.inside.by_rank there
                (sym c.rank-was.ensures.rank ∙ (w.if-was-is.false ∙ c.rank-is.ensures.rank)) c.self.invariant.places;
            rooms = c.self.invariant.rooms;
            few = omega (arith, c.self.invariant.few, length-set items c.args.place c.args.now);
            memory = c.self.invariant.memory;
            small = c.self.invariant.small;
          })
    ]
