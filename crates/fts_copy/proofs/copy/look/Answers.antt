use Rattle.std.proofs.Common.{◌≡◌, true, false, sym, ◌∙◌, rules}
use Rattle.std.specs.Prelude.{is_some, if◌then◌else◌}
use Rattle.fts_tables.specs.declared.rows.Outcome.TheVariants.{DestinationExists}
use Rattle.fts_store.specs.Store.{place_at}
use Rattle.fts_copy.specs.Script.{Ends, LeadsTo, log_of, looks, looks_at, is_free, fits}
use Rattle.fts_copy.proofs.Playing.{then_leads, done_leads, failed_leads, by_test, by_else}
use Rattle.fts_copy.proofs.Following.{look_leads, none_leads, some_leads, over_leads, free_leads, misfit_leads, fit_leads}
use Rattle.fts_copy.proofs.copy.look.Goals as goal
use Rattle.fts_copy.proofs.copy.look.Goals.{then-not-overwrites+in-Ok-size+else-is_some, else-not-overwrites}

pub returns-in_default-clause-script : goal.returns-in_default-clause-script
returns-in_default-clause-script g c answers next =
    let order = c.args.order.now in
    let calls = g.E.Store.calls c.args.store.now in
    let sized = g.E.Store.calls c.size.new.self in
    failed_leads (looks order next) (log_of calls answers) (log_of sized answers) (looks_at order next) c.size.result c.in_default.field-0 c.in_default.is
    (look_leads order next calls sized answers (place_at c.source.result) c.size.result c.source.ensures.place c.size.ensures.called)

pub returns-in_default-source-clause-script : goal.returns-in_default-source-clause-script
returns-in_default-source-clause-script g c answers next =
    let order = c.args.order.now in
    let calls = g.E.Store.calls c.args.store.now in
    let sized = g.E.Store.calls c.size.new.self in
    then_leads (done_leads (looks order next) (log_of calls answers) (log_of sized answers) (looks_at order next) c.size.result c.in-Ok.source c.in-Ok.is
    (look_leads order next calls sized answers (place_at c.source.result) c.size.result c.source.ensures.place c.size.ensures.called))
    (none_leads order next (log_of sized answers) c.in-Ok.source c.in_default-source.is)

pub returns-in_default-size-clause-script : goal.returns-in_default-size-clause-script
returns-in_default-size-clause-script g c answers next =
    let order = c.args.order.now in
    let calls = g.E.Store.calls c.args.store.now in
    let sized = g.E.Store.calls c.size.new.self in
    let again = g.E.Store.calls c.size-then-not-overwrites.new.self in
    let over : order.overwrite ≡ false = sym c.overwrites.ensures ∙ c.if-not-overwrites.true in
    then_leads (then_leads (done_leads (looks order next) (log_of calls answers) (log_of sized answers) (looks_at order next) c.size.result c.in-Ok.source c.in-Ok.is
    (look_leads order next calls sized answers (place_at c.source.result) c.size.result c.source.ensures.place c.size.ensures.called))
    (some_leads order next (log_of sized answers) c.in-Ok.source c.in-Some.size c.in-Some.is))
    (failed_leads (is_free order next c.in-Some.size) (log_of sized answers) (log_of again answers) (λ dest. if is_some dest then Ends DestinationExists else fits order next c.in-Some.size)
    c.size-then-not-overwrites.result c.in_default-size.field-0 c.in_default-size.is
    (free_leads order next c.in-Some.size sized again answers (place_at c.dest.result) c.size-then-not-overwrites.result over c.dest.ensures c.size-then-not-overwrites.ensures.called))

pub returns-then-is_some-clause-script : goal.returns-then-is_some-clause-script
returns-then-is_some-clause-script g c answers next =
    let order = c.args.order.now in
    let calls = g.E.Store.calls c.args.store.now in
    let sized = g.E.Store.calls c.size.new.self in
    let again = g.E.Store.calls c.size-then-not-overwrites.new.self in
    let over : order.overwrite ≡ false = sym c.overwrites.ensures ∙ c.if-not-overwrites.true in
    let there : is_some c.in-Ok-size.dest ≡ true = search rules in
    by_test (looks order next) (log_of calls answers) (log_of again answers) (is_some c.in-Ok-size.dest) (Ends DestinationExists) (fits order next c.in-Some.size)
    (then_leads (then_leads (done_leads (looks order next) (log_of calls answers) (log_of sized answers) (looks_at order next) c.size.result c.in-Ok.source c.in-Ok.is
    (look_leads order next calls sized answers (place_at c.source.result) c.size.result c.source.ensures.place c.size.ensures.called))
    (some_leads order next (log_of sized answers) c.in-Ok.source c.in-Some.size c.in-Some.is))
    (done_leads (is_free order next c.in-Some.size) (log_of sized answers) (log_of again answers) (λ dest. if is_some dest then Ends DestinationExists else fits order next c.in-Some.size)
    c.size-then-not-overwrites.result c.in-Ok-size.dest c.in-Ok-size.is
    (free_leads order next c.in-Some.size sized again answers (place_at c.dest.result) c.size-then-not-overwrites.result over c.dest.ensures c.size-then-not-overwrites.ensures.called))) there

pub returns-then-wants_other_size-clause-script : goal.returns-then-wants_other_size-clause-script
returns-then-wants_other_size-clause-script g c answers next =
    let order = c.args.order.now in
    let calls = g.E.Store.calls c.args.store.now in
    let sized = g.E.Store.calls c.size.new.self in
    let fitting : LeadsTo (looks order next) (log_of calls answers) (fits order next c.in-Some.size) (log_of (g.E.Store.calls c.if-not-overwrites.store) answers) =
    elim c.if-not-overwrites.branch [
      | then-not-overwrites+in-Ok-size+else-is_some w ↦
          let over : order.overwrite ≡ false = sym c.overwrites.ensures ∙ w.if-not-overwrites.true in
          let none : is_some w.in-Ok-size.dest ≡ false = search rules in
          let again = g.E.Store.calls w.size-then-not-overwrites.new.self in
          let leads : LeadsTo (looks order next) (log_of calls answers) (fits order next c.in-Some.size) (log_of again answers) =
          by_else (looks order next) (log_of calls answers) (log_of again answers) (is_some w.in-Ok-size.dest) (Ends DestinationExists) (fits order next c.in-Some.size)
          (then_leads (then_leads (done_leads (looks order next) (log_of calls answers) (log_of sized answers) (looks_at order next) c.size.result c.in-Ok.source c.in-Ok.is
          (look_leads order next calls sized answers (place_at c.source.result) c.size.result c.source.ensures.place c.size.ensures.called))
          (some_leads order next (log_of sized answers) c.in-Ok.source c.in-Some.size c.in-Some.is))
          (done_leads (is_free order next c.in-Some.size) (log_of sized answers) (log_of again answers) (λ dest. if is_some dest then Ends DestinationExists else fits order next c.in-Some.size)
          w.size-then-not-overwrites.result w.in-Ok-size.dest w.in-Ok-size.is
          (free_leads order next c.in-Some.size sized again answers (place_at w.dest.result) w.size-then-not-overwrites.result over w.dest.ensures w.size-then-not-overwrites.ensures.called))) none in
          rw w.store-is leads
      | else-not-overwrites w ↦
          let over : order.overwrite ≡ true = sym c.overwrites.ensures ∙ w.if-not-overwrites.false in
          let leads : LeadsTo (looks order next) (log_of calls answers) (fits order next c.in-Some.size) (log_of sized answers) =
          then_leads (then_leads (done_leads (looks order next) (log_of calls answers) (log_of sized answers) (looks_at order next) c.size.result c.in-Ok.source c.in-Ok.is
          (look_leads order next calls sized answers (place_at c.source.result) c.size.result c.source.ensures.place c.size.ensures.called))
          (some_leads order next (log_of sized answers) c.in-Ok.source c.in-Some.size c.in-Some.is)) (over_leads order next (log_of sized answers) c.in-Some.size over) in
          rw w.store-is leads
    ] in
    then_leads fitting (misfit_leads order next (log_of (g.E.Store.calls c.if-not-overwrites.store) answers) c.in-Some.size (sym c.wants_other_size.ensures ∙ c.if-wants_other_size.true))

pub returns-clause-script : goal.returns-clause-script
returns-clause-script g c answers next =
    let order = c.args.order.now in
    let calls = g.E.Store.calls c.args.store.now in
    let sized = g.E.Store.calls c.size.new.self in
    let fitting : LeadsTo (looks order next) (log_of calls answers) (fits order next c.in-Some.size) (log_of (g.E.Store.calls c.if-not-overwrites.store) answers) =
    elim c.if-not-overwrites.branch [
      | then-not-overwrites+in-Ok-size+else-is_some w ↦
          let over : order.overwrite ≡ false = sym c.overwrites.ensures ∙ w.if-not-overwrites.true in
          let none : is_some w.in-Ok-size.dest ≡ false = search rules in
          let again = g.E.Store.calls w.size-then-not-overwrites.new.self in
          let leads : LeadsTo (looks order next) (log_of calls answers) (fits order next c.in-Some.size) (log_of again answers) =
          by_else (looks order next) (log_of calls answers) (log_of again answers) (is_some w.in-Ok-size.dest) (Ends DestinationExists) (fits order next c.in-Some.size)
          (then_leads (then_leads (done_leads (looks order next) (log_of calls answers) (log_of sized answers) (looks_at order next) c.size.result c.in-Ok.source c.in-Ok.is
          (look_leads order next calls sized answers (place_at c.source.result) c.size.result c.source.ensures.place c.size.ensures.called))
          (some_leads order next (log_of sized answers) c.in-Ok.source c.in-Some.size c.in-Some.is))
          (done_leads (is_free order next c.in-Some.size) (log_of sized answers) (log_of again answers) (λ dest. if is_some dest then Ends DestinationExists else fits order next c.in-Some.size)
          w.size-then-not-overwrites.result w.in-Ok-size.dest w.in-Ok-size.is
          (free_leads order next c.in-Some.size sized again answers (place_at w.dest.result) w.size-then-not-overwrites.result over w.dest.ensures w.size-then-not-overwrites.ensures.called))) none in
          rw w.store-is leads
      | else-not-overwrites w ↦
          let over : order.overwrite ≡ true = sym c.overwrites.ensures ∙ w.if-not-overwrites.false in
          let leads : LeadsTo (looks order next) (log_of calls answers) (fits order next c.in-Some.size) (log_of sized answers) =
          then_leads (then_leads (done_leads (looks order next) (log_of calls answers) (log_of sized answers) (looks_at order next) c.size.result c.in-Ok.source c.in-Ok.is
          (look_leads order next calls sized answers (place_at c.source.result) c.size.result c.source.ensures.place c.size.ensures.called))
          (some_leads order next (log_of sized answers) c.in-Ok.source c.in-Some.size c.in-Some.is)) (over_leads order next (log_of sized answers) c.in-Some.size over) in
          rw w.store-is leads
    ] in
    then_leads fitting (fit_leads order next (log_of (g.E.Store.calls c.if-not-overwrites.store) answers) c.in-Some.size (sym c.wants_other_size.ensures ∙ c.if-wants_other_size.false))
