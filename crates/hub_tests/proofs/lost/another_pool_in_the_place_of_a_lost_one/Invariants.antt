use Rattle.hub_tests.proofs.lost.another_pool_in_the_place_of_a_lost_one.Given as goal

abbrev pub ghosts-go_on-J-HubName : goal.ghosts-go_on-J-HubName
ghosts-go_on-J-HubName g a = record { origin = a.parts.origin; book = a.parts.book }

abbrev pub ghosts-go_on-L-Ledger : goal.ghosts-go_on-L-Ledger
ghosts-go_on-L-Ledger g a = record { name = a.parts.first_name; parts = a.parts.first_parts }

abbrev pub ghosts-go_on-M-Ledger : goal.ghosts-go_on-M-Ledger
ghosts-go_on-M-Ledger g a = record { name = a.parts.second_name; parts = a.parts.second_parts }
