-- Laws: what a specimen computes with, crate by crate, named once: `unfolding computed` opens all of it.
use Rattle.lists.specs.Pick.{pick}
use Rattle.lists.specs.All.{all_by, all_to, pairs_by}
use Rattle.lists.specs.Filter.{filter_by, is_in}
use Rattle.lists.specs.Same.{same_by}
use Rattle.lists.specs.Place.{place_by}
use Rattle.lists.specs.Sums.{sum_to}
use Rattle.lists.specs.Down.{largest}
use Rattle.lists.specs.Arranged.{insert_in}
use Rattle.octets.specs.Octets.{at16, at32}
use Rattle.identifier.specs.Order.{order_of, same_of}
use Rattle.address_set.specs.AddressSet.{bit, difference_of, joined, offsets_from, fewest_ranges, set_of, up_to}
use Rattle.occupancy.specs.Board.{altered_by, grown, less_on, more_on, on_offset, same_board, same_entry, same_scope_board, shrunk}
use Rattle.message.specs.Codes.{allowed_in, allows, length_ok}
use Rattle.message.specs.Walk.{exactly_filled, layout_ok, step_of, option_taken, value_ok, walk_from, walk_of}
use Rattle.message.specs.Read.{ended, header_ok, none_required, read_of, required_empty}
use Rattle.message.specs.Values.{allowed_at, codes_from, fields_of, found_at, names_server, times_of}
use Rattle.reply.specs.Reply.{info_ack_of, lease_ack_of, message_octets, nak_of, offer_of, options_octets, ranges_octets, release_ack_of, scopes_octets}
use Rattle.state.specs.Book.{addresses_of, advanced, by_identifier, cleared_to, compared_of, differ, dropped, ended_of, laid_out, live_of, overlaps, raised, remove_of, is_hold, laid_releases, table_of, until, with_held, committed, union_all, used_in, board_with, board_without, inserted_by, by_ending}
use Rattle.state.specs.Board.{board_of, count_in, count_on, entry_by, is_on, owner_from, scope_by}
use Rattle.state.specs.Edit.{board_edited, board_left, forget_of, left_in, noted, noted_in, remember_of, applied_by, edited_by}
use Rattle.format.specs.Format.{read_octet, read_times, then, write_all}
use Rattle.format.specs.Place.{is_whole}
use Rattle.names.specs.Names.{chosen_of, default_of, first_by, in_language, lists_in, match_of, names_b, or_else, same, sent_for, sizes_ok, value_or}
use Rattle.agreement.specs.Agrees.{agrees_b}
use Rattle.releases.specs.Again.{any_again, is_again}
use Rattle.releases.specs.Rules.{broken_memory, broken_release, differs, few_b, filled_b, first_release, tenant_b, laid_b, length_b, memory_b, not_leased, older, once_b, past_b, release_rules_of, rules_to, unused_r}
use Rattle.releases.specs.Whole.{book_b}
use Rattle.soundness.specs.Sound.{apart, below_b, blank_b, compatible, counts_b, disjoint, one_to, first_broken, first_rule, first_late, hold_b, tenants_b, id_b, kind_b, lapse_b, lease_b, limit_b, limits_b, committed_b, none_b, offsets_b, padded_b, period_b, pool_b, pools_apart, range_b, range_zero, ranges_apart, records_b, rule1, rule10, rule11, rule12, rule13, rule2, rule3, rule4, rule5, rule6, rule7, rule8, rule9, scope_zero, settings_b, reserve_b, reserves_b, size_b, tail_b, ttl_b, unused_b, zero_from, broken_by, layout_by, rule19_by, rules_by, sound_by}
use Rattle.allocation.specs.Rule.{allowed, busy_in, grant_of, grant_to, suffices, taken_of}
use Rattle.proposal.specs.Proposals.{ask_at, brought_by, end_of, error0_of, fits_new, fits_renewed, held_from, hold_meets, lease_from, length_of, new_at, new_of, new_with, others_busy, proposal_of, renewed_of, renewed_to, start_of, turned, meets, too_late, too_short}
use Rattle.admission.specs.Tests.{bad_counts, dropped_of, drops_hold, early1_of, held_already, error1_of, error2_of, error3_of, skewed, has_period, found_in, is_for_hold, is_held, is_leased, is_new, knows_scope, lacks_current, lacks_scope, released_again, resends, scope_place, zero_length, latest_first, asks_identifier}
use Rattle.decision.specs.Verdicts.{discard_with, nak_with, plain_reply, refusal_of}
use Rattle.admission.specs.Tests as tests
use Rattle.decision.specs.Verdicts as verdicts
use Rattle.decision.specs.Count.{count_of, identifier_count, lookup_count}
use Rattle.decision.specs.Decide.{decide_of, dropped_first, judged_of, leased_of, plain_of, repeated_of, settled_of}
use Rattle.server.specs.Serve.{at_clock, for_server, has_client, reply_of, serve_of, tenant_of, with_reading}
use Rattle.guarantee.specs.Statement.{run}

-- lists
unfoldable pub lists_open : Unit {0}
unfolding pick all_by pairs_by all_to filter_by is_in place_by sum_to largest insert_in
lists_open = tt

-- numbers in octets
unfoldable pub octets_open : Unit {0}
unfolding at16 at32
octets_open = tt

-- identifiers
unfoldable pub identifiers_open : Unit {0}
unfolding order_of same_of
identifiers_open = tt

-- address sets
unfoldable pub sets_open : Unit {0}
unfolding bit offsets_from set_of difference_of up_to joined fewest_ranges
sets_open = tt

-- the reader of datagrams
unfoldable pub reader_open : Unit {0}
unfolding length_ok allowed_in allows layout_ok exactly_filled value_ok option_taken step_of walk_from walk_of header_ok required_empty none_required ended read_of found_at names_server codes_from allowed_at times_of fields_of
reader_open = tt

-- the replies
unfoldable pub replies_open : Unit {0}
unfolding options_octets message_octets ranges_octets scopes_octets offer_of lease_ack_of release_ack_of info_ack_of nak_of
replies_open = tt

-- the book
unfoldable pub book_open : Unit {0}
unfolding is_hold until laid_out table_of laid_releases by_identifier remove_of inserted_by left_in edited_by applied_by remember_of forget_of noted_in noted live_of raised dropped advanced union_all addresses_of overlaps used_in differ by_ending compared_of
book_open = tt

-- "Sound"
unfoldable pub sound_open : Unit {0}
unfolding one_to size_b id_b records_b counts_b rule1 below_b offsets_b rule2 range_b ranges_apart rule3 pool_b pools_apart rule4 ttl_b rule5 reserve_b reserves_b rule6 kind_b period_b lease_b none_b tenants_b rule7 rule8 disjoint apart rule9 compatible rule10 limit_b limits_b rule11 committed_b rule12 lapse_b hold_b rule13 zero_from padded_b blank_b unused_b layout_by range_zero tail_b scope_zero settings_b rule19_by rules_by first_late first_rule first_broken broken_by sound_by
sound_open = tt

-- the occupancy board
unfoldable pub board_open : Unit {0}
unfolding same_by more_on less_on grown shrunk on_offset altered_by same_entry same_scope_board same_board owner_from is_on count_in count_on entry_by scope_by board_of board_with board_without ended_of cleared_to board_left board_edited agrees_b
board_open = tt

-- what is remembered
unfoldable pub memory_open : Unit {0}
unfolding tenant_b few_b length_b differs not_leased once_b past_b older filled_b unused_r laid_b rules_to release_rules_of first_release broken_release broken_memory memory_b is_again any_again
memory_open = tt

-- the grant rule
unfoldable pub grant_open : Unit {0}
unfolding taken_of busy_in with_held committed allowed grant_of grant_to suffices
grant_open = tt

-- the decision
unfoldable pub decision_open : Unit {0}
unfolding is_new has_period found_in is_leased is_held tests.same_scope is_for_hold hold_meets turned drops_hold dropped_of brought_by held_from repeated_of dropped_first resends released_again scope_place knows_scope lacks_scope zero_length bad_counts lacks_current early1_of held_already error1_of skewed error2_of error3_of start_of length_of end_of ask_at fits_new new_with new_at new_of others_busy fits_renewed renewed_to renewed_of proposal_of error0_of lease_from verdicts.with_lease plain_reply nak_with discard_with refusal_of leased_of plain_of settled_of judged_of decide_of latest_first too_short too_late meets asks_identifier lookup_count identifier_count count_of
decision_open = tt

-- the names for the scopes
unfoldable pub names_open : Unit {0}
unfolding then read_octet read_times write_all is_whole names_b sizes_ok value_or lists_in sent_for chosen_of match_of default_of first_by or_else in_language same
names_open = tt

-- the call
unfoldable pub call_open : Unit {0}
unfolding book_b reply_of for_server with_reading has_client tenant_of at_clock serve_of
call_open = tt

-- all of them, and a list of calls
unfoldable pub computed : Unit {0}
unfolding run lists_open octets_open identifiers_open sets_open reader_open replies_open book_open sound_open board_open memory_open grant_open decision_open names_open call_open
computed = tt
