-- `unfolding opened` opens every definition that a row computes with.
-- Assumes nothing.
use Rattle.slices.specs.Splice as splices
use Rattle.leb128.specs.Leb128 as leb
use Rattle.numbers.specs.Fixed as fixed
use Rattle.numbers.specs.Marks as marks
use Rattle.states.specs.Kind as kind
use Rattle.states.specs.Letters as letters
use Rattle.states.specs.Packed as packing
use Rattle.tables.specs.Lists as lists
use Rattle.tables.specs.Layout as layout
use Rattle.tables.specs.Checks as checking
use Rattle.rules.specs.Vector as vector
use Rattle.rules.specs.Gather as gatherer
use Rattle.records.specs.Event as event
use Rattle.event_rooms.specs.Out as outs
use Rattle.event_streams.specs.Stream as stream
use Rattle.values.specs.Value as values
use Rattle.rules.specs.Scan as scan
use Rattle.gather.specs.Run as running
use Rattle.section_scan.specs.Sections as section
use Rattle.changes.specs.Changes as change
use Rattle.encoder.specs.Rule as rules
use Rattle.answers.specs.Outcome as ending
use Rattle.entries.specs.Entries as entry

unfoldable pub opened : Unit {0}
unfolding splices.part leb.value leb.goes_on leb.signed_value leb.signed_bits leb.leb_of leb.unsigned_tenth leb.signed_tenth fixed.little fixed.big fixed.fixed fixed.big_bytes fixed.negative marks.same marks.section_of kind.bytes_required letters.ieee1164 letters.crate_order letters.place_of letters.mapped packing.digits packing.bytes packing.packed lists.nth lists.signals lists.vectors layout.layout_of layout.start checking.unless checking.lowest checking.and_then checking.within_limit checking.check1 checking.equal_lengths checking.check2 checking.good_vector checking.check3 checking.holds checking.suits checking.good_number checking.good_signal checking.check4 checking.names_all checking.check5 checking.check6 checking.checks vector.all vector.any vector.fresh vector.cleared vector.fires vector.clashes vector.stored vector.acts_early vector.act gatherer.width gatherer.begin gatherer.with gatherer.elem gatherer.list gatherer.end_all gatherer.bit_write gatherer.to_vector gatherer.toward gatherer.does event.record_bytes event.record_of event.event_value event.event_steps outs.empty outs.fits outs.appended outs.append outs.append_all stream.event_length stream.record_at stream.is_time stream.in_values stream.judged stream.next_event values.on_read values.number values.unsigned values.signed values.byte_up_to values.real values.narrow values.value running.gathers running.alone running.of_vector running.events_of scan.and_then running.fitted running.acted running.after running.run running.run_all section.field section.end_mark section.each_value section.next_id section.one_change section.change_list section.next_time section.snapshot section.one_step section.steps section.cycle section.entries section.directory section.one_section section.sections section.scan_sections change.record_length change.written change.write_record change.in_order change.change_record change.next_change change.one_record change.changes change.scan_changes rules.keeps rules.ticks rules.times rules.one rules.rule rules.time_rule ending.answer ending.event_bytes ending.value_bytes ending.padded ending.leaves entry.checked entry.outcome entry.reads entry.read_sections entry.read_changes entry.ruled ending.leaves_kept entry.apply_time_rule
opened = tt
