use Rattle.fts_ledger.proofs.laws.machine_laws.Goals as goal

pub returns : goal.returns
returns c = record {
  formed = c.tables_are_well_formed.ensures.formed;
  outs = c.files_out_are_the_active_rows.ensures.out;
  stay = c.rows_stay.ensures.stay;
  picks = c.picked_rows_stand.ensures.place;
  fresh = c.claimed_files_were_in.ensures.lists;
}
