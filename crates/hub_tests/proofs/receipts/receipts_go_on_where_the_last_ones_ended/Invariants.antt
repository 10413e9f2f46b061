use Rattle.hub_tests.proofs.receipts.receipts_go_on_where_the_last_ones_ended.Given as goal

abbrev pub ghosts-row-J-HubName : goal.ghosts-row-J-HubName
ghosts-row-J-HubName g a = record { origin = a.parts.origin; book = a.parts.book }

abbrev pub ghosts-row-L-Ledger : goal.ghosts-row-L-Ledger
ghosts-row-L-Ledger g a = record { name = a.parts.first_name; parts = a.parts.first_parts }

abbrev pub ghosts-row-M-Ledger : goal.ghosts-row-M-Ledger
ghosts-row-M-Ledger g a = record { name = a.parts.second_name; parts = a.parts.second_parts }
