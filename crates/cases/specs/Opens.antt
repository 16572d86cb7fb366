-- One name whose `unfolding` line opens every definition, so that a theorem can compute with all of them. Assumes nothing.
use Rattle.std.specs.Prelude.{ℕ}
use mathlib.Core.List.{flatten}
use Rattle.model.specs.Lists.{all, elem, distinct, ascending, last_of, select, store, or_else}
use Rattle.model.specs.Device.{within_limits, pages, first_page, group_count, marks_count, names_per_page, entries_per_page, entries_per_block, spare_length, head_length, count_length, marks_length, group_length, regions, regions_length, state_length}
use Rattle.model.specs.Record.{kind_of, is_approximate, covers, member_as, member, rise, predict}
use Rattle.model.specs.Spare.{entry, middle, entry_rule, ruled_entries, erase, program_page, program_pages, program_block, pages_entries, block_entries, pass_block, names, lowest_naming, page_named}
use Rattle.model.specs.Learning.{place, sort, arrivals, sorted, later, latest, logicals, sources, stride_length, accurate_run, suiting, common, longer, extend, reach, wrong_at, wrongs, fit_of, beats, better, best_of, fit, best_fit, approximate_record, approximate_run, longer_run, next_run, ahead, runs, learn, records_for}
use Rattle.model.specs.Levels.{record_count, meets, meets_any, shrunk_to, shrunk_to_any, shrink, keep, give_up, give_up_all, filled, into, fate_left, fate, staying, sinking, stayers, sinkers, sink, sink_all, insert_top, insert, insert_all, member_of_any, shrink_all, depth_over, depth, put_at, put_back, compact, take_in, take_in_all, holder, levels_to}
use Rattle.model.specs.Marks.{mark_byte, mark_value, has_bit, set_bit, clear_bit, is_marked, mark, unmark, unmark_all}
use Rattle.model.specs.State.{with_counts, with_marks, with_groups, group_at, free_blocks, used_blocks, lowest_in}
use Rattle.model.specs.Sound.{is_empty, is_filled, owns_its_ends, sound_as, sound_record, ordered, owned_offsets, sound_group, sound_groups, sound_state}
use Rattle.calls.specs.Refusals.{refusal_number, first_refusal, wrong_length, numbers_missing, wrong_state, wrong_spare}
use Rattle.calls.specs.Outcome.{number, accepted, values, outcome, unless}
use Rattle.calls.specs.Format.{format_checks, blank_state, format_done}
use Rattle.calls.specs.Flush.{flush_checks, write_state, write_block, clear_marks, flush_done}
use Rattle.calls.specs.Lookup.{looked_named, looked_at, looked_by, descend, seek, answer_of, lookup_checks, lookup_done, reads}
use Rattle.calls.specs.Discard.{discard_page, discard_done}
use Rattle.calls.specs.Choice.{used_by, rank, ranked, take_while, victims_by, blocks_of, pages_of, copy_by, moves_by, first_of, no_gain}
use Rattle.calls.specs.Collection.{gives, valid, collect_checks, move_all, erase_block, erase_blocks, list_erased, collect_done}
use Rattle.calls.specs.Compaction.{compact_checks, compact_group, compact_done}
use Rattle.calls.specs.Agreement.{each_below, is_named, found_so, missed_so, alike, all_named, agree_checks, agrees, agree_done}
use Rattle.calls.specs.Listing.{record_bytes, level_bytes, group_bytes, list_checks, list_done}
use Rattle.octets.specs.Little.{bits32, bytes2, bytes4}
use Rattle.calls.specs.Why.{covering_in, owner_start, reason_as, reason_of, reason_by, says_member, up_to, reasons_from, reasons, owner_bytes, reason_bytes, why_checks, why_done}
use Rattle.calls.specs.Book.{write_of, blank_book, among, carried_flush, carried_copy, carried_erased, last_or, last_flush, last_discard, enter}
use Rattle.calls.specs.History.{lend, lent_to, checks_of, effect, run, value, accepted_entry, entry_of, past_after, step, steps}
use Rattle.calls.specs.PageMap.{is_some, or_zero, write_counts, clear_counts}
use Rattle.plain.specs.Table.{entry_length, table_regions, table_length, no_page, page_of, is_written, sound_entry, named_pages, sound_table, naming}
use Rattle.plain.specs.Calls as plain
use Rattle.plain.specs.Calls.{as_call, entry_checks, looked_up, written, cleared, without, blank_table, leaves}
use Rattle.cases.specs.Shown.{row_of, learned, predicted_by, predicted, planned, show_outcome, called, lookups, compared, show_telling, tellings}

unfoldable pub everything : ℕ
unfolding flatten all elem distinct ascending last_of select store or_else within_limits pages first_page group_count marks_count names_per_page entries_per_page entries_per_block spare_length head_length count_length marks_length group_length regions regions_length state_length kind_of is_approximate covers member_as member rise predict entry middle entry_rule ruled_entries erase program_page program_pages program_block pages_entries block_entries pass_block names lowest_naming page_named place sort arrivals sorted later latest logicals sources stride_length accurate_run suiting common longer extend reach wrong_at wrongs fit_of beats better best_of fit best_fit approximate_record approximate_run longer_run next_run ahead runs learn records_for record_count meets meets_any shrunk_to shrunk_to_any shrink keep give_up give_up_all filled into fate_left fate staying sinking stayers sinkers sink sink_all insert_top insert insert_all member_of_any shrink_all depth_over depth put_at put_back compact take_in take_in_all holder levels_to mark_byte mark_value has_bit set_bit clear_bit is_marked mark unmark unmark_all with_counts with_marks with_groups group_at free_blocks used_blocks lowest_in is_empty is_filled owns_its_ends sound_as sound_record ordered owned_offsets sound_group sound_groups sound_state refusal_number first_refusal wrong_length numbers_missing wrong_state wrong_spare number accepted values outcome unless format_checks blank_state format_done flush_checks write_state write_block clear_marks flush_done looked_named looked_at looked_by descend seek answer_of lookup_checks lookup_done reads discard_page discard_done gives valid used_by rank ranked take_while victims_by blocks_of pages_of copy_by moves_by first_of no_gain collect_checks move_all erase_block erase_blocks list_erased collect_done compact_checks compact_group compact_done each_below is_named found_so missed_so alike all_named agree_checks agrees agree_done bits32 bytes2 bytes4 record_bytes level_bytes group_bytes list_checks list_done covering_in owner_start reason_as reason_of reason_by says_member up_to reasons_from reasons owner_bytes reason_bytes why_checks why_done write_of blank_book among carried_flush carried_copy carried_erased last_or last_flush last_discard enter lend lent_to checks_of effect run value accepted_entry entry_of past_after step steps is_some or_zero write_counts clear_counts entry_length table_regions table_length no_page page_of is_written sound_entry named_pages sound_table naming as_call plain.lent_to entry_checks plain.checks_of looked_up plain.enter written cleared without blank_table plain.answer_of leaves plain.outcome plain.run row_of learned predicted_by predicted planned show_outcome called lookups compared show_telling tellings
everything = 0
