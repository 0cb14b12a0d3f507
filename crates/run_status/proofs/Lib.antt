mod Pumps
