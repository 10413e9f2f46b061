use Rattle.hub_tests.proofs.held.hold_before.Given as goal

abbrev pub ghosts-hold_a_commit-J-HubName : goal.ghosts-hold_a_commit-J-HubName
ghosts-hold_a_commit-J-HubName g a = record { origin = a.parts.origin; book = a.parts.book }

abbrev pub ghosts-hold_a_commit-L-Ledger : goal.ghosts-hold_a_commit-L-Ledger
ghosts-hold_a_commit-L-Ledger g a = record { name = a.parts.first_name; parts = a.parts.first_parts }

abbrev pub ghosts-hold_a_commit-M-Ledger : goal.ghosts-hold_a_commit-M-Ledger
ghosts-hold_a_commit-M-Ledger g a = record { name = a.parts.second_name; parts = a.parts.second_parts }
