-- The new job's place comes in behind the others of its state.
use Rattle.std.proofs.Common.{◌≡◌, ◌<◌, [], ◌∷◌, length, length-append, ap, sym, subst, arith}
use Rattle.fts_desk.specs.JobLists.{JobList, ArePlacesOf, places_at}
use Rattle.fts_desk.proofs.JobSets.{MayComeIn, may_add, places_more, rooms_more}
use Rattle.fts_desk.proofs.job_states.JobStates.add.Goals as goal
use Rattle.fts_desk.proofs.job_states.JobStates.add.Goals.{After-rank}

-- the place may come in among those of its state
may_come_in : (c : After-rank) → MayComeIn c.len-place.result (places_at c.self.inside.by_rank c.rank.result)
may_come_in c =
    may_add c.self.inside.jobs.items c.args.job c.len-place.result c.rank.result c.self.inside.room
    (omega (arith, c.len-place.ensures, c.self.inside.jobs.ok.0)) c.rank.ensures.rank c.rank.ensures.inside c.self.inside.by_rank c.self.invariant.places
    c.self.invariant.rooms
    (omega (arith, c.requires.room, ap (λ (list : JobList). length list.jobs) c.self.view_is, ap (λ (list : JobList). list.room) c.self.view_is))

pub put_place-requires-clause-room : goal.put_place-requires-clause-room
put_place-requires-clause-room c = (may_come_in (goal.at.put_place-requires-clause-room c).After-rank).room

pub put_place-requires-clause-absent : goal.put_place-requires-clause-absent
put_place-requires-clause-absent c = (may_come_in (goal.at.put_place-requires-clause-absent c).After-rank).absent

pub invariant_of-self : goal.invariant_of-self
invariant_of-self c =
    let place : c.len-place.result ≡ length c.self.inside.jobs.items = omega (arith, c.len-place.ensures, c.self.inside.jobs.ok.0) in
    let few : length c.self.inside.jobs.items < c.self.inside.room =
    omega (arith, c.requires.room, ap (λ (list : JobList). length list.jobs) c.self.view_is, ap (λ (list : JobList). list.room) c.self.view_is) in
    record {
      places = subst (λ jobs. ArePlacesOf jobs c.put_place.new.by_rank) (sym c.push_reserved.ensures.items)
          (places_more c.self.inside.jobs.items c.args.job c.len-place.result c.rank.result c.self.inside.room place c.rank.ensures.rank
          c.rank.ensures.inside c.self.inside.by_rank c.self.invariant.places c.self.invariant.rooms few c.put_place.new.by_rank c.put_place.ensures.here
          c.put_place.ensures.others);
      rooms = rooms_more c.self.inside.jobs.items c.args.job c.len-place.result c.rank.result c.self.inside.room place c.rank.ensures.rank
          c.rank.ensures.inside c.self.inside.by_rank c.self.invariant.places c.self.invariant.rooms few c.put_place.new.by_rank c.put_place.ensures.here
          c.put_place.ensures.others;
      few = omega (arith, few, ap length c.push_reserved.ensures.items, length-append c.self.inside.jobs.items (c.args.job ∷ []));
      memory = omega (arith, c.self.invariant.memory, c.push_reserved.ensures.capacity);
      small = c.self.invariant.small;
    }
